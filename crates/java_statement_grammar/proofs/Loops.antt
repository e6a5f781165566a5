-- What stands in the parentheses of a `for`: what is read is spelled so, and what is spelled so is read.
use Rattle.std.proofs.Common.{◌≡◌, ◌≤◌, ◌<◌, ℕ, true, false, if◌then◌else◌, ◌++◌, List, [], ◌∷◌, length, map, Option, Some, None, inl, inr, refl, ap, sym, ◌∙◌, subst, append_assoc, arith}
use Rattle.std.specs.List.{AllByRecursion}
use Rattle.std.proofs.lemmas.List.{append-nil}
use Rattle.java_tree.specs.declared.tokens.Position.{Position}
use Rattle.java_tree.specs.declared.tokens.Mark.TheVariants as m
use Rattle.java_tree.specs.Seen.{Token, Tokens}
use Rattle.java_tree.specs.declared.types.JType.{JType}
use Rattle.java_tree.specs.declared.exprs.JExpr.{JExpr}
use Rattle.java_tree.specs.Trees.{more_tokens, listed, AreBetween, param_tokens, final_tokens, type_tokens, TypeStands, tokens, any_level, Stands}
use Rattle.java_expr_grammar.specs.Reading as r
use Rattle.java_expr_grammar.specs.Reading.{◌>>=◌, maybe, whole, Listed, dotted}
use Rattle.java_expr_grammar.proofs.LawsToCite.{bind_some, cond_is, maybe_is, some_same, type_sound, type_again, ident_only, First, further, first, starts, sound, colon_only, after}
use Rattle.java_expr_grammar.proofs.LawsToCite.Lists as lists
use Rattle.java_statement_grammar.specs.declared.declarations.JValue.{JValue}
use Rattle.java_statement_grammar.specs.declared.declarations.JDeclarator.{JDeclarator}
use Rattle.java_statement_grammar.specs.declared.declarations.JDeclaration.{JDeclaration}
use Rattle.java_statement_grammar.specs.declared.statements.JForStart.{JForStart}
use Rattle.java_statement_grammar.specs.declared.statements.JForStart.TheVariants as start
use Rattle.java_statement_grammar.specs.declared.statements.JForHead.{JForHead}
use Rattle.java_statement_grammar.specs.declared.statements.JForHead.TheVariants as for
use Rattle.java_statement_grammar.specs.Heads.{value_tokens, declarator_tokens, declaration_tokens, DeclarationStands, StatementStands, maybe_tokens, maybe_stands, start_tokens, for_tokens, StartStands, ForStands}
use Rattle.java_statement_grammar.specs.Reading.{declares, begins_declaration, semicolon, declaration_of, final_first, statement_read, ends_expressions, expressions, condition, basic, walks, each, declared, for_declared, for_plain, for_read}
use Rattle.java_statement_grammar.proofs.Whole.{whole_only, whole_again, three, any_again, end_low, end_no_comma, commas_low}
use Rattle.java_statement_grammar.proofs.Begins.{statement_plain, kind_declares}
use Rattle.java_statement_grammar.proofs.Declared.{of_sound, final_text, of_again, final_again, names_text, declaration_text, kind_again, declaration_begins}
use Rattle.java_statement_grammar.proofs.Simple.{statement_sound, statement_again}

-- ---- what is read is spelled so

pub semicolon_only : (ts : Tokens) (c : Position × Tokens) → semicolon ts ≡ Some c → ts ≡ Token.Sign m.Semicolon c.0 ∷ c.1
semicolon_only (Token.Sign m.Semicolon at ∷ rest) c e = let same : (at, rest) ≡ c = some_same e in ap (λ (x : Position × Tokens). Token.Sign m.Semicolon x.0 ∷ x.1) same
semicolon_only _ c e = absurd (cc e)

expressions_sound : (d : ℕ) (ts : Tokens) (x : Listed JExpr × Tokens) → expressions d ts ≡ Some x
    → (ts ≡ listed x.0.1 (map tokens x.0.0) ++ x.1) × AreBetween x.0.1 x.0.0 × AllByRecursion (StatementStands d) x.0.0
unfolding expressions
expressions_sound d ts x e =
    let P : Listed JExpr × Tokens → Type 0 = λ x. (ts ≡ listed x.0.1 (map tokens x.0.0) ++ x.1) × AreBetween x.0.1 x.0.0 × AllByRecursion (StatementStands d) x.0.0 in
    elim (cond_is (ends_expressions ts) (Option.Some (([], []), ts)) (r.some_by r.comma (statement_read d) ts) (Some x) e) [
      | inl a ↦ subst P (some_same a.1) (refl, refl, tt)
      | inr a ↦ (let all = lists.some_sound JExpr (statement_read d) tokens (StatementStands d) (statement_sound d) ts x a.1 in (all.same, all.between, all.all))
    ]

condition_sound : (d : ℕ) (ts : Tokens) (x : Option JExpr × Tokens) → condition d ts ≡ Some x → (ts ≡ maybe_tokens x.0 ++ x.1) × maybe_stands d x.0
condition_sound d ts x e =
    let P : Option JExpr × Tokens → Type 0 = λ x. (ts ≡ maybe_tokens x.0 ++ x.1) × maybe_stands d x.0 in
    elim (maybe_is (semicolon ts) _ _ _ e) [
      | inl a ↦ (let b = bind_some (r.read d any_level ts) _ _ a.1 in
          let i = sound d any_level ts b.0 b.1 in
          subst P (some_same b.2) (i.0, i.1))
      | inr a ↦ subst P (some_same a.2) (refl, tt)
    ]

basic_text : (a b c rest : Tokens) (first second : Position)
    → (a ++ Token.Sign m.Semicolon first ∷ (b ++ Token.Sign m.Semicolon second ∷ c)) ++ rest ≡ a ++ Token.Sign m.Semicolon first ∷ (b ++ Token.Sign m.Semicolon second ∷ (c ++ rest))
basic_text a b c rest first second =
    append_assoc a (Token.Sign m.Semicolon first ∷ (b ++ Token.Sign m.Semicolon second ∷ c)) rest
    ∙ ap (λ r. a ++ Token.Sign m.Semicolon first ∷ r) (append_assoc b (Token.Sign m.Semicolon second ∷ c) rest)

-- It is spelled with what stands before it, and stands.
abbrev Heads : ℕ → Tokens → JForHead × Tokens → Type 0
Heads d ts x = (ts ≡ for_tokens x.0 ++ x.1) × ForStands d x.0

basic_sound : (d : ℕ) (begin : JForStart) (ts : Tokens) (x : JForHead × Tokens) → StartStands d begin → basic d begin ts ≡ Some x → Heads d (start_tokens begin ++ ts) x
unfolding basic
basic_sound d begin ts x good e =
    let a = bind_some (semicolon ts) _ _ e in
    let c = bind_some (condition d a.0.1) _ _ a.2 in
    let b = bind_some (semicolon c.0.1) _ _ c.2 in
    let u = bind_some (expressions d b.0.1) _ _ b.2 in
    let i = condition_sound d a.0.1 c.0 c.1 in
    let k = expressions_sound d b.0.1 u.0 u.1 in
    let updates : Tokens = listed u.0.0.1 (map tokens u.0.0.0) in
    let rest : c.0.1 ≡ Token.Sign m.Semicolon b.0.0 ∷ (updates ++ u.0.1) = semicolon_only c.0.1 b.0 b.1 ∙ ap (λ r. Token.Sign m.Semicolon b.0.0 ∷ r) k.0 in
    let all : ts ≡ Token.Sign m.Semicolon a.0.0 ∷ (maybe_tokens c.0.0 ++ Token.Sign m.Semicolon b.0.0 ∷ (updates ++ u.0.1)) =
    semicolon_only ts a.0 a.1 ∙ ap (λ r. Token.Sign m.Semicolon a.0.0 ∷ r) (i.0 ∙ ap (λ r. maybe_tokens c.0.0 ++ r) rest) in
    subst (Heads d (start_tokens begin ++ ts)) (some_same u.2) (
      ap (λ r. start_tokens begin ++ r) all ∙ sym (basic_text (start_tokens begin) (maybe_tokens c.0.0) updates u.0.1 a.0.0 b.0.0),
      (good, i.1, k.1, k.2),
    )

each_sound : (d : ℕ) (is_final : Option Position) (kind : JType) (ts : Tokens) (x : JForHead × Tokens) → TypeStands d kind → each d is_final kind ts ≡ Some x
    → Heads d (final_tokens is_final ++ (type_tokens kind ++ ts)) x
unfolding each
each_sound d is_final kind ts x good e =
    let n = bind_some (r.ident ts) _ _ e in
    let c = bind_some (r.colon n.0.1) _ _ n.2 in
    let a = bind_some (r.read d any_level c.0.1) _ _ c.2 in
    let i = sound d any_level c.0.1 a.0 a.1 in
    let rest : n.0.1 ≡ Token.Sign m.Colon c.0.0 ∷ (tokens a.0.0 ++ a.0.1) = colon_only n.0.1 c.0 c.1 ∙ ap (λ r. Token.Sign m.Colon c.0.0 ∷ r) i.0 in
    let all : ts ≡ Token.Id n.0.0.name n.0.0.at ∷ Token.Sign m.Colon c.0.0 ∷ (tokens a.0.0 ++ a.0.1) = ident_only ts n.0 n.1 ∙ ap (λ r. param_tokens n.0.0 ++ r) rest in
    subst (Heads d (final_tokens is_final ++ (type_tokens kind ++ ts))) (some_same a.2) (
      ap (λ r. final_tokens is_final ++ (type_tokens kind ++ r)) all
          ∙ sym (three (final_tokens is_final) (type_tokens kind) (Token.Id n.0.0.name n.0.0.at ∷ Token.Sign m.Colon c.0.0 ∷ tokens a.0.0) a.0.1),
      (good, i.1),
    )

declared_sound : (d : ℕ) (is_final : Option Position) (kind : JType) (ts : Tokens) (x : JForHead × Tokens) → TypeStands d kind → declared d is_final kind ts ≡ Some x
    → Heads d (final_tokens is_final ++ (type_tokens kind ++ ts)) x
unfolding declared
declared_sound d is_final kind ts x good e =
    let a = bind_some (declaration_of d is_final kind ts) _ _ e in
    let i = of_sound d is_final kind ts a.0 good a.1 in
    let k = basic_sound d (start.Declaration a.0.0) a.0.1 x i.1 a.2 in
    (i.0 ∙ k.0, k.1)

for_declared_sound : (d : ℕ) (ts : Tokens) (x : JForHead × Tokens) → for_declared d ts ≡ Some x → Heads d ts x
unfolding for_declared
for_declared_sound d ts x e =
    let k = bind_some (r.type_read d (final_first ts).1) _ _ e in
    let t = type_sound d (final_first ts).1 k.0 k.1 in
    let f : Option Position = (final_first ts).0 in
    let text : ts ≡ final_tokens f ++ (type_tokens k.0.0 ++ k.0.1) = final_text ts ∙ ap (λ r. final_tokens f ++ r) t.0 in
    elim (cond_is (walks k.0.1) (each d f k.0.0 k.0.1) (declared d f k.0.0 k.0.1) (Some x) k.2) [
      | inl a ↦ (let i = each_sound d f k.0.0 k.0.1 x t.1 a.1 in (text ∙ i.0, i.1))
      | inr a ↦ (let i = declared_sound d f k.0.0 k.0.1 x t.1 a.1 in (text ∙ i.0, i.1))
    ]

for_plain_sound : (d : ℕ) (ts : Tokens) (x : JForHead × Tokens) → for_plain d ts ≡ Some x → Heads d ts x
unfolding for_plain
for_plain_sound d ts x e =
    let a = bind_some (expressions d ts) _ _ e in
    let i = expressions_sound d ts a.0 a.1 in
    let k = basic_sound d (start.Expressions a.0.0.0 a.0.0.1) a.0.1 x (i.1, i.2) a.2 in
    (i.0 ∙ k.0, k.1)

abbrev for_part : ℕ → r.Reader JForHead
for_part d ts = if begins_declaration ts then for_declared d ts else for_plain d ts

part_sound : (d : ℕ) (ts : Tokens) (x : JForHead × Tokens) → for_part d ts ≡ Some x → Heads d ts x
part_sound d ts x e = elim (cond_is (begins_declaration ts) (for_declared d ts) (for_plain d ts) (Some x) e) [
  | inl a ↦ for_declared_sound d ts x a.1
  | inr a ↦ for_plain_sound d ts x a.1
]

-- What is read is spelled so, and stands.
pub for_is_spelled : (d : ℕ) (ts : Tokens) (x : JForHead) → for_read d ts ≡ Some x → (for_tokens x ≡ ts) × ForStands d x
unfolding for_read
for_is_spelled d ts x e = let i = part_sound d ts (x, []) (whole_only (for_part d ts) x e) in (sym (i.0 ∙ append-nil (for_tokens x)), i.1)

-- ---- what is spelled so is read

no_ends : (ts : Tokens) → First ts → ends_expressions ts ≡ false
no_ends ts f = subst (λ ts. ends_expressions ts ≡ false) (sym f.is) (no_end f.head f.tail f.starts)
  where
    no_end : (x : Token) (ts : Tokens) → starts x ≡ true → ends_expressions (x ∷ ts) ≡ false
    no_end (Token.Sign m.Semicolon at) ts h = absurd (cc h)
    no_end _ ts h = refl

no_semicolon : (ts : Tokens) → First ts → semicolon ts ≡ None
no_semicolon ts f = subst (λ ts. semicolon ts ≡ None) (sym f.is) (no_mark f.head f.tail f.starts)
  where
    no_mark : (x : Token) (ts : Tokens) → starts x ≡ true → semicolon (x ∷ ts) ≡ None
    no_mark (Token.Sign m.Semicolon at) ts h = absurd (cc h)
    no_mark _ ts h = refl

-- the first of some statements that are expressions
some_first : (d : ℕ) (x : JExpr) (texts : Tokens) (rest : Tokens) → StatementStands d x → First ((tokens x ++ texts) ++ rest)
some_first d x texts rest s = further _ rest (further (tokens x) texts (first d any_level x (omega arith) s.stands))

expressions_again : (d : ℕ) (xs : List JExpr) (commas : List Position) (rest : Tokens) → AreBetween commas xs → AllByRecursion (StatementStands d) xs → ends_expressions rest ≡ true
    → expressions d (listed commas (map tokens xs) ++ rest) ≡ Some ((xs, commas), rest)
unfolding expressions
expressions_again d [] commas rest b all e = rw (b, e) refl
expressions_again d (x ∷ xs) commas rest b all e =
    rw (no_ends (listed commas (map tokens (x ∷ xs)) ++ rest) (some_first d x (more_tokens commas (map tokens xs)) rest all.0))
    (lists.some_again JExpr (statement_read d) tokens (StatementStands d) (λ rest. after rest < 2) commas_low (statement_again d) x xs commas rest b all (omega (arith, end_low rest e)) (end_no_comma rest e))

after_semicolon : (at : Position) (rest : Tokens) → after (Token.Sign m.Semicolon at ∷ rest) < 2
unfolding r.suffix
after_semicolon at rest = omega arith

condition_again : (d : ℕ) (x : Option JExpr) (at : Position) (rest : Tokens) → maybe_stands d x
    → condition d (maybe_tokens x ++ Token.Sign m.Semicolon at ∷ rest) ≡ Some (x, Token.Sign m.Semicolon at ∷ rest)
condition_again d None at rest s = refl
condition_again d (Some x) at rest s =
    rw (
      no_semicolon (tokens x ++ Token.Sign m.Semicolon at ∷ rest) (further _ _ (first d any_level x (omega arith) s)),
      any_again d x s (Token.Sign m.Semicolon at ∷ rest) (after_semicolon at rest),
    ) refl

basic_again : (d : ℕ) (begin : JForStart) (first second : Position) (test : Option JExpr) (updates : List JExpr) (commas : List Position) (rest : Tokens)
    → maybe_stands d test → AreBetween commas updates → AllByRecursion (StatementStands d) updates → ends_expressions rest ≡ true
    → basic d begin (Token.Sign m.Semicolon first ∷ (maybe_tokens test ++ Token.Sign m.Semicolon second ∷ (listed commas (map tokens updates) ++ rest)))
    ≡ Some (for.Basic begin first test second updates commas, rest)
unfolding basic
basic_again d begin first second test updates commas rest s b all e =
    rw (condition_again d test second (listed commas (map tokens updates) ++ rest) s, expressions_again d updates commas rest b all e) refl

each_again : (d : ℕ) (is_final : Option Position) (kind : JType) (n : List ℕ) (at colon : Position) (walked : JExpr) (rest : Tokens) → Stands d any_level walked → after rest < 2
    → each d is_final kind (Token.Id n at ∷ Token.Sign m.Colon colon ∷ (tokens walked ++ rest)) ≡ Some (for.Each is_final kind n at colon walked, rest)
unfolding each
each_again d is_final kind n at colon walked rest s h = rw (any_again d walked s rest h) refl

-- behind `final` and the type
declared_from : (d : ℕ) (is_final : Option Position) (kind : JType) (ts us rest : Tokens) → final_first ts ≡ (is_final, us) → r.type_read d us ≡ Some (kind, rest)
    → for_declared d ts ≡ (if walks rest then each d is_final kind rest else declared d is_final kind rest)
unfolding for_declared
declared_from d is_final kind ts us rest f t =
    ap (λ (y : Option Position × Tokens). r.type_read d y.1 >>= λ kind. (if walks kind.1 then each d y.0 kind.0 kind.1 else declared d y.0 kind.0 kind.1)) f
    ∙ ap (λ (o : Option (JType × Tokens)). o >>= λ kind. (if walks kind.1 then each d is_final kind.0 kind.1 else declared d is_final kind.0 kind.1)) t

end_no_walk : (name : List ℕ) (at : Position) (rest : Tokens) → ends_expressions rest ≡ true → walks (Token.Id name at ∷ rest) ≡ false
end_no_walk name at [] e = refl
end_no_walk name at (Token.Sign m.Semicolon p ∷ rest) e = refl
end_no_walk name at _ e = absurd (cc e)

no_walk : (name : List ℕ) (at : Position) (value : Option JValue) (commas : List Position) (texts : List Tokens) (rest : Tokens) → ends_expressions rest ≡ true
    → walks (Token.Id name at ∷ ((value_tokens value ++ more_tokens commas texts) ++ rest)) ≡ false
no_walk name at (Some x) commas texts rest e = refl
no_walk name at None [] texts rest e = end_no_walk name at rest e
no_walk name at None (p ∷ ps) [] rest e = end_no_walk name at rest e
no_walk name at None (p ∷ ps) (text ∷ texts) rest e = refl

names_no_walk : (names : List JDeclarator) (commas : List Position) (rest : Tokens) → 1 ≤ length names → ends_expressions rest ≡ true
    → walks (listed commas (map declarator_tokens names) ++ rest) ≡ false
names_no_walk [] commas rest some e = absurd (omega (arith, some))
names_no_walk (n ∷ ns) commas rest some e = no_walk n.name n.at n.value commas (map declarator_tokens ns) rest e

declared_again : (d : ℕ) (x : JDeclaration) (us : Tokens) (y : JForHead × Tokens) → DeclarationStands d x → ends_expressions us ≡ true → basic d (start.Declaration x) us ≡ Some y
    → for_declared d (declaration_tokens x ++ us) ≡ Some y
unfolding declared
declared_again d x us y s e h =
    let t = kind_again d x s us in
    ap (for_declared d) (declaration_text x us)
    ∙ declared_from d x.is_final x.kind _ _ (names_text x us) (final_again d x.is_final _ (x.kind, names_text x us) t) t
    ∙ rw (names_no_walk x.names x.commas us s.some_name e, of_again d x s us e) h

-- with a declaration first
declared_part : (d : ℕ) (x : JDeclaration) (us : Tokens) (y : JForHead × Tokens) → DeclarationStands d x → ends_expressions us ≡ true → basic d (start.Declaration x) us ≡ Some y
    → for_part d (declaration_tokens x ++ us) ≡ Some y
declared_part d x us y s e h = rw (declaration_begins d x s us) (declared_again d x us y s e h)

-- Expressions up to a `;` begin with no declaration.
expressions_plain : (d : ℕ) (xs : List JExpr) (commas : List Position) (at : Position) (rest : Tokens) → AllByRecursion (StatementStands d) xs
    → begins_declaration (listed commas (map tokens xs) ++ Token.Sign m.Semicolon at ∷ rest) ≡ false
expressions_plain d [] commas at rest all = refl
expressions_plain d (x ∷ xs) commas at rest all =
    ap begins_declaration (append_assoc (tokens x) (more_tokens commas (map tokens xs)) (Token.Sign m.Semicolon at ∷ rest)) ∙ (statement_plain d x all.0 _).0

plain_part : (d : ℕ) (xs : List JExpr) (commas : List Position) (at : Position) (rest : Tokens) (y : JForHead × Tokens) → AreBetween commas xs → AllByRecursion (StatementStands d) xs
    → basic d (start.Expressions xs commas) (Token.Sign m.Semicolon at ∷ rest) ≡ Some y → for_part d (listed commas (map tokens xs) ++ Token.Sign m.Semicolon at ∷ rest) ≡ Some y
unfolding for_plain
plain_part d xs commas at rest y b all h =
    rw (expressions_plain d xs commas at rest all, expressions_again d xs commas (Token.Sign m.Semicolon at ∷ rest) b all refl) h

name_declares : (n : List ℕ) (at : Position) (rest : Tokens) → declares (dotted (Token.Id n at ∷ rest)).1 ≡ true
unfolding dotted
name_declares n at rest = refl

each_part : (d : ℕ) (is_final : Option Position) (kind : JType) (n : List ℕ) (at colon : Position) (walked : JExpr) (rest : Tokens) → TypeStands d kind → Stands d any_level walked → after rest < 2
    → for_part d (final_tokens is_final ++ (type_tokens kind ++ Token.Id n at ∷ Token.Sign m.Colon colon ∷ (tokens walked ++ rest))) ≡ Some (for.Each is_final kind n at colon walked, rest)
each_part d is_final kind n at colon walked rest k s h =
    let us : Tokens = Token.Id n at ∷ Token.Sign m.Colon colon ∷ (tokens walked ++ rest) in
    let t : r.type_read d (type_tokens kind ++ us) ≡ Some (kind, us) = type_again d kind k us (refl, refl, refl) in
    rw (kind_declares d is_final kind k us (name_declares n at _))
    (declared_from d is_final kind _ _ us (final_again d is_final _ (kind, us) t) t ∙ each_again d is_final kind n at colon walked rest s h)

part_again : (d : ℕ) (x : JForHead) → ForStands d x → (rest : Tokens) → ends_expressions rest ≡ true → for_part d (for_tokens x ++ rest) ≡ Some (x, rest)
part_again d (for.Basic (start.Declaration x) first test second updates commas) s rest e =
    ap (for_part d) (basic_text (declaration_tokens x) (maybe_tokens test) (listed commas (map tokens updates)) rest first second)
    ∙ declared_part d x _ _ s.0 refl (basic_again d (start.Declaration x) first second test updates commas rest s.1 s.2 s.3 e)
part_again d (for.Basic (start.Expressions xs between) first test second updates commas) s rest e =
    ap (for_part d) (basic_text (listed between (map tokens xs)) (maybe_tokens test) (listed commas (map tokens updates)) rest first second)
    ∙ plain_part d xs between first _ _ s.0.0 s.0.1 (basic_again d (start.Expressions xs between) first second test updates commas rest s.1 s.2 s.3 e)
part_again d (for.Each is_final kind n at colon walked) s rest e =
    ap (for_part d) (three (final_tokens is_final) (type_tokens kind) (Token.Id n at ∷ Token.Sign m.Colon colon ∷ tokens walked) rest)
    ∙ each_part d is_final kind n at colon walked rest s.0 s.1 (omega (arith, end_low rest e))

-- What is spelled so is read.
pub for_is_read : (d : ℕ) (ts : Tokens) (x : JForHead) → ForStands d x → for_tokens x ≡ ts → for_read d ts ≡ Some x
unfolding for_read
for_is_read d ts x s same = subst (λ ts. whole (for_part d ts) ≡ Some x) same (whole_again (for_part d) (for_tokens x) x (part_again d x s [] refl))
