-- What a reader in the code answers, beside what reading gives.
use Rattle.std.specs.Prelude.{◌≡◌, ◌≤◌, ◌+◌, length, ℕ, Bool, false, map, List, [], ◌∷◌, Option, Some, None, Result, Ok, Err}
use Rattle.std.specs.Borrow.{Bor}
use Rattle.j2k_base.specs.declared.errors.NoMemory.{NoMemory}
use Rattle.java_tree.specs.declared.tokens.Position.{Position}
use Rattle.java_tree.specs.declared.types.JBrackets.{JBrackets}
use Rattle.java_tree.specs.declared.types.JDotted.{JDotted}
use Rattle.java_tree.specs.declared.types.JQualified.{JQualified}
use Rattle.java_tree.specs.declared.types.JType.{JType}
use Rattle.java_tree.specs.declared.exprs.JParam.{JParam}
use Rattle.java_tree.specs.declared.exprs.JTypedParam.{JTypedParam}
use Rattle.java_tree.specs.declared.exprs.JCreated.{JCreated}
use Rattle.java_tree.specs.declared.exprs.JCreated.TheVariants as created
use Rattle.java_tree.specs.Seen.{Token, Tokens}
use Rattle.java_tree.specs.Trees.{type_depth, typed_depth, deepest}
use Rattle.java_expr_grammar.specs.Reading.{Read, Reader, ◌>>=◌, maybe, Listed, comma, close, dot, open_square, close_square, closes, some_by, typed_read, ends_name, after_close}
use Rattle.java_token_cursor.specs.declared.piece.Piece.{Piece}
use Rattle.java_token_cursor.specs.Shown.{shown}
use Rattle.java_type_parser.specs.declared.names.DotName.{DotName}
use Rattle.java_type_parser.specs.declared.ahead.Turn.{Turn}
use Rattle.java_type_parser.specs.declared.ahead.Turn.TheVariants as turn
use Rattle.java_type_parser.specs.declared.types.TypeFound.{TypeFound}
use Rattle.java_type_parser.specs.declared.types.TypesFound.{TypesFound}
use Rattle.java_type_parser.specs.declared.params.ParamsFound.{ParamsFound}
use Rattle.java_type_parser.specs.declared.params.TypedFound.{TypedFound}
use Rattle.java_type_parser.specs.declared.params.TypedsFound.{TypedsFound}

-- Unless memory runs out, what is given is what is read, seen by view, and it meets P.
abbrev pub Gives : {X Y : Type 0} → (X → Y) → (X → Type 0) → Option Y → Result (Option X) NoMemory → Type 0
Gives view P read (Err e) = Unit {0}
Gives view P read (Ok None) = read ≡ None
Gives view P read (Ok (Some x)) = (read ≡ Some (view x)) × P x

abbrev pub Always : {X : Type 0} → X → Type 0
Always x = Unit {0}

-- ---- types

abbrev pub type_found : TypeFound × Bor (List Piece) → JType × Tokens
type_found x = (x.0.tree, shown x.1.now)

abbrev pub TypeFits : ℕ → TypeFound × Bor (List Piece) → Type 0
TypeFits d x = (x.0.depth ≡ type_depth x.0.tree) × (x.0.depth ≤ d)

abbrev pub types_found : TypesFound × Bor (List Piece) → Listed JType × Tokens
types_found x = ((x.0.items, x.0.commas), shown x.1.now)

abbrev pub TypesFit : ℕ → TypesFound × Bor (List Piece) → Type 0
TypesFit d x = (x.0.deepest ≡ deepest (map type_depth x.0.items)) × (x.0.deepest ≤ d)

-- ---- names and brackets

abbrev pub param_found : JParam × Bor (List Piece) → JParam × Tokens
param_found x = (x.0, shown x.1.now)

abbrev pub created_found : JCreated × Bor (List Piece) → JCreated × Tokens
created_found x = (x.0, shown x.1.now)

abbrev pub closed_pair : Position → Reader JBrackets
closed_pair o ts = close_square ts >>= λ c. Some (record { opens = o; closes = c.0 }, c.1)

-- `[` and `]`
abbrev pub pair_at : Reader JBrackets
pair_at ts = open_square ts >>= λ o. closed_pair o.0 o.1

abbrev pub named : Position → Reader JDotted
named d (Token.Id n at ∷ rest) = Some (record { dot = d; name = n; at = at }, rest)
named d _ = None

-- a dot and a name
abbrev pub dotted_at : Reader JDotted
dotted_at ts = dot ts >>= λ d. named d.0 d.1

abbrev pub HasDot : Read JDotted → Option DotName → Type 0
HasDot read None = read ≡ None
HasDot read (Some x) = read ≡ Some (record { dot = x.dot; name = x.name.now; at = x.at }, shown x.rest.now)

abbrev pub inferred_end : JQualified → Position → Reader JCreated
inferred_end q lp ts = closes ts >>= λ c. Some (created.Inferred q lp c.0.0 c.0.1, c.1)

-- ---- parameters

abbrev pub params_found : ParamsFound × Bor (List Piece) → Listed JParam × Tokens
params_found x = ((x.0.items, x.0.commas), shown x.1.now)

abbrev pub typed_found : TypedFound × Bor (List Piece) → JTypedParam × Tokens
typed_found x = (x.0.tree, shown x.1.now)

abbrev pub TypedFits : ℕ → TypedFound × Bor (List Piece) → Type 0
TypedFits d x = (x.0.depth ≡ typed_depth x.0.tree) × (x.0.depth ≤ d)

abbrev pub typeds_found : TypedsFound × Bor (List Piece) → Listed JTypedParam × Tokens
typeds_found x = ((x.0.items, x.0.commas), shown x.1.now)

abbrev pub TypedsFit : ℕ → TypedsFound × Bor (List Piece) → Type 0
TypedsFit d x = (x.0.deepest ≡ deepest (map typed_depth x.0.items)) × (x.0.deepest ≤ d)

-- none where a `)` comes first, and otherwise one or more
abbrev pub typed_list : ℕ → Reader (Listed JTypedParam)
typed_list d ts = maybe (close ts) (some_by comma (typed_read d) ts) (λ c. Some (([], []), ts))

-- ---- looks ahead

abbrev pub ends_first : Tokens → Bool
ends_first (Token.Sign mark p ∷ rest) = ends_name mark
ends_first _ = false

abbrev pub Turns : ℕ → List Piece → Turn → Type 0
Turns n ts (turn.Done rest) = after_close n (shown ts) ≡ shown rest.now
Turns n ts (turn.Go m rest) = (after_close n (shown ts) ≡ after_close m (shown rest.now)) × (m ≤ n + 1) × (length ts ≡ length rest.now + 1)
