-- What the readers are asked for, what they answer, and a function value that reads parts.
use Rattle.std.specs.Prelude.{◌≡◌, ◌≤◌, ◌<◌, ◌+◌, ◌^◌, ℕ, suc, Bool, List, [], ◌++◌, length, Option, Some, None, Result}
use Rattle.std.specs.Borrow.{Bor}
use Rattle.std.specs.declared.alloc.Global.{Global}
use Rattle.j2k_base.specs.declared.errors.NoMemory.{NoMemory}
use Rattle.java_tree.specs.declared.tokens.Position.{Position}
use Rattle.java_tree.specs.Seen.{Tokens}
use Rattle.java_tree.specs.declared.exprs.JTypedParam.{JTypedParam}
use Rattle.java_expr_grammar.specs.Reading.{Read, Reader, ◌>>=◌, close, typed_read}
use Rattle.java_token_cursor.specs.declared.piece.Piece.{Piece}
use Rattle.java_token_cursor.specs.Shown.{shown}
use Rattle.java_type_parser.specs.Gives.{Gives}
use Rattle.java_unit_grammar.specs.declared.statements.JBody.{JBody}
use Rattle.java_unit_grammar.specs.declared.statements.JCatch.{JCatch, roll-JCatch}
use Rattle.java_modifier_rules.specs.Fits.{owner_seen, role_seen}
use Rattle.java_unit_grammar.specs.Reading.{Readers, readers, body_step, label_step, statement_step, member_step, Headed, Rounded, Braced, block, close_curly, is_end, begins_close, ends_group, no_case, no_catch}
use Rattle.java_member_grammar.specs.declared.lines.JConstants.{JConstants}
use Rattle.java_block_parser.specs.declared.types.ConstantsFound.{ConstantsFound}
use Rattle.java_block_parser.specs.declared.asks.Ask.{Ask}
use Rattle.java_block_parser.specs.declared.asks.Ask.TheVariants as ask
use Rattle.java_block_parser.specs.declared.asks.Part.{Part}
use Rattle.java_block_parser.specs.declared.asks.Part.TheVariants as part
use Rattle.java_block_parser.specs.declared.asks.Until.{Until}
use Rattle.java_block_parser.specs.declared.asks.Until.TheVariants as until

-- ---- what is found, and the tokens after it

abbrev pub same : {A : Type 0} → A → A
same x = x

abbrev pub found : {A : Type 0} → A × Bor (List Piece) → A × Tokens
found x = (x.0, shown x.1.now)

abbrev pub headed_found : {H : Type 0} → (H × List JBody) × Bor (List Piece) → Headed H × Tokens
headed_found x = (record { head = x.0.0; bodies = x.0.1 }, shown x.1.now)

abbrev pub constants_found : ConstantsFound × Bor (List Piece) → Headed JConstants × Tokens
constants_found x = (record { head = x.0.head; bodies = x.0.bodies }, shown x.1.now)

abbrev pub rounded_found : {H : Type 0} → (Position × H × List JBody × Position) × Bor (List Piece) → Rounded H × Tokens
rounded_found x = (record { opens = x.0.0; head = x.0.1; bodies = x.0.2; closes = x.0.3 }, shown x.1.now)

abbrev pub braced_found : {A : Type 0} → (Position × List A × Position) × Bor (List Piece) → Braced A × Tokens
braced_found x = (record { opens = x.0.0; items = x.0.1; closes = x.0.2 }, shown x.1.now)

-- what follows is no longer than the pieces
abbrev pub Shorter : {X : Type 0} → List Piece → X × Bor (List Piece) → Type 0
Shorter ts x = length x.1.now ≤ length ts

-- What is found is what is read, and what follows is no longer.
abbrev pub Takes : {A : Type 0} → List Piece → Read A → Option (A × Bor (List Piece)) → Type 0
Takes ts read None = read ≡ None
Takes ts read (Some x) = (read ≡ Some (x.0, shown x.1.now)) × (length x.1.now ≤ length ts)

-- ---- lists

abbrev pub stop : Until → Tokens → Bool
stop until.End ts = is_end ts
stop until.Close ts = begins_close ts
stop until.Group ts = ends_group ts
stop until.NoCase ts = no_case ts
stop until.NoCatch ts = no_catch ts

-- ---- readers of parts

-- A body takes all of its tokens.
abbrev pub asked : Readers → Ask → ℕ → Reader Part
asked R (ask.Body is_block) d ts = R.body d is_block ts >>= λ x. Some (part.Body x, [])
asked R ask.Label d ts = R.label d ts >>= λ x. Some (part.Label x.0, x.1)
asked R (ask.Statement role) d ts = R.statement d (role_seen role) ts >>= λ x. Some (part.Statement x.0, x.1)
asked R (ask.Member owner) d ts = R.member d (owner_seen owner) ts >>= λ x. Some (part.Member x.0, x.1)

abbrev pub part_found : Part × Bor (List Piece) → Part × Tokens
part_found x = (x.0, shown x.1.now)

-- A function value reads parts in n steps, where what is read may be suc d deep.
pub record Nests (d n : ℕ) (pre : Global → Bor (List Piece) → Ask → ℕ → ℕ → Type 0)
    (post : Global → Bor (List Piece) → Ask → ℕ → ℕ → Result (Option (Part × Bor (List Piece))) NoMemory → Type 0) : Type 0 where
  pub room : d + n ≤ 998
  pub few : n ≤ 700
  pub callable : (alloc : Global) (ts : Bor (List Piece)) (ask : Ask) (e : ℕ) → length ts.now < 2 ^ 32 → e + n ≤ 1000 → pre alloc ts ask e n
  pub reads : (alloc : Global) (ts : Bor (List Piece)) (ask : Ask) (e : ℕ) (x : Result (Option (Part × Bor (List Piece))) NoMemory) → post alloc ts ask e n x
      → Gives part_found (Shorter ts.now) (asked (readers n) ask e (shown ts.now)) x

-- a list that begins with these items
abbrev pub onto : {A : Type 0} → List A → Read (List A) → Read (List A)
onto xs o = o >>= λ ys. Some (xs ++ ys.0, ys.1)

abbrev pub rounded : {H : Type 0} → Position × H × List JBody × Position → Rounded H
rounded x = record { opens = x.0; head = x.1; bodies = x.2; closes = x.3 }

abbrev pub braced : {A : Type 0} → Position × List A × Position → Braced A
braced x = record { opens = x.0; items = x.1; closes = x.2 }

-- what is asked for, suc d deep at most
abbrev pub stepped : Readers → ℕ → Ask → Reader Part
stepped R d (ask.Body is_block) ts = body_step R d is_block ts >>= λ x. Some (part.Body x, [])
stepped R d ask.Label ts = label_step R d ts >>= λ x. Some (part.Label x.0, x.1)
stepped R d (ask.Statement role) ts = statement_step R d (role_seen role) ts >>= λ x. Some (part.Statement x.0, x.1)
stepped R d (ask.Member owner) ts = member_step R d (owner_seen owner) ts >>= λ x. Some (part.Member x.0, x.1)

-- ---- what follows a part

-- the end of what stands in braces
abbrev pub braced_end : {A : Type 0} → Position → List A → Reader (Braced A)
braced_end opens xs ts = close_curly ts >>= λ c. Some (record { opens = opens; items = xs; closes = c.0 }, c.1)

-- behind what is caught
abbrev pub catch_behind : Readers → ℕ → Position → Position → JTypedParam → Reader JCatch
catch_behind R d at opens x ts = do
  rp ← close ts
  ys ← block R d rp.1
  Some (roll-JCatch (record { at = at; opens = opens; caught = x; closes = rp.0; left = ys.0.opens; statements = ys.0.items; right = ys.0.closes }), ys.1)

-- behind the `(` of a catch
abbrev pub catch_opened : Readers → ℕ → Position → Position → Reader JCatch
catch_opened R d at opens ts = typed_read (suc d) ts >>= λ x. catch_behind R d at opens x.0 x.1
