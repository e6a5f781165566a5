-- Declarations: what is read is spelled so, and what is spelled so is read.
use Rattle.std.proofs.Common.{◌≡◌, ◌≤◌, ◌<◌, ℕ, zero, suc, true, ◌++◌, List, [], ◌∷◌, length, map, Option, Some, None, refl, ap, sym, ◌∙◌, subst, arith}
use Rattle.std.specs.List.{AllByRecursion}
use Rattle.java_tree.specs.declared.tokens.Position.{Position}
use Rattle.java_tree.specs.declared.tokens.Mark.TheVariants as m
use Rattle.java_tree.specs.declared.tokens.Keyword.TheVariants as w
use Rattle.java_tree.specs.Seen.{Token, Tokens}
use Rattle.java_tree.specs.declared.types.JType.{JType}
use Rattle.java_tree.specs.Trees.{listed, AreBetween, param_tokens, final_tokens, type_tokens, TypeStands, init_level}
use Rattle.java_expr_grammar.specs.Reading as r
use Rattle.java_expr_grammar.specs.Reading.{◌>>=◌, dotted, whole}
use Rattle.java_expr_grammar.proofs.LawsToCite.{bind_some, some_same, type_sound, type_again, ident_only, EndsType, sound, again, after, bound_pos}
use Rattle.java_expr_grammar.proofs.LawsToCite.Lists as lists
use Rattle.java_statement_grammar.specs.declared.declarations.JValue.{JValue}
use Rattle.java_statement_grammar.specs.declared.declarations.JDeclarator.{JDeclarator}
use Rattle.java_statement_grammar.specs.declared.declarations.JDeclaration.{JDeclaration}
use Rattle.java_statement_grammar.specs.Heads.{value_tokens, declarator_tokens, declaration_tokens, value_stands, DeclaratorStands, DeclarationStands}
use Rattle.java_statement_grammar.specs.Reading.{declares, begins_declaration, value_by, declarator_read, declaration_of, final_first, declaration_read, ends_expressions}
use Rattle.java_statement_grammar.proofs.Whole.{three, end_low, end_no_comma, commas_lower}
use Rattle.java_statement_grammar.proofs.Begins.{kind_declares}

-- ---- what is read is spelled so

value_sound : (d : ℕ) (ts : Tokens) (x : Option JValue × Tokens) → value_by d ts ≡ Some x → (ts ≡ value_tokens x.0 ++ x.1) × value_stands d x.0
value_sound d (Token.Sign m.Assign at ∷ rest) x e =
    let a = bind_some (r.read d init_level rest) _ _ e in
    let i = sound d init_level rest a.0 a.1 in
    let P : Option JValue × Tokens → Type 0 = λ x. (Token.Sign m.Assign at ∷ rest ≡ value_tokens x.0 ++ x.1) × value_stands d x.0 in
    subst P (some_same a.2) (ap (λ r. Token.Sign m.Assign at ∷ r) i.0, i.1)
value_sound d ts x e =
    let P : Option JValue × Tokens → Type 0 = λ x. (ts ≡ value_tokens x.0 ++ x.1) × value_stands d x.0 in
    subst P (some_same e) (refl, tt)

pub declarator_sound : (d : ℕ) (ts : Tokens) (x : JDeclarator × Tokens) → declarator_read d ts ≡ Some x → (ts ≡ declarator_tokens x.0 ++ x.1) × DeclaratorStands d x.0
unfolding declarator_read DeclaratorStands
declarator_sound zero ts x e = absurd (cc e)
declarator_sound (suc d) ts x e =
    let n = bind_some (r.ident ts) _ _ e in
    let v = bind_some (value_by d n.0.1) _ _ n.2 in
    let i = value_sound d n.0.1 v.0 v.1 in
    let P : JDeclarator × Tokens → Type 0 = λ x. (ts ≡ declarator_tokens x.0 ++ x.1) × DeclaratorStands (suc d) x.0 in
    subst P (some_same v.2) (ident_only ts n.0 n.1 ∙ ap (λ r. param_tokens n.0.0 ++ r) i.0, i.1)

pub of_sound : (d : ℕ) (is_final : Option Position) (kind : JType) (ts : Tokens) (x : JDeclaration × Tokens) → TypeStands d kind → declaration_of d is_final kind ts ≡ Some x
    → (final_tokens is_final ++ (type_tokens kind ++ ts) ≡ declaration_tokens x.0 ++ x.1) × DeclarationStands d x.0
unfolding declaration_of
of_sound d is_final kind ts x good e =
    let n = bind_some (r.some_by r.comma (declarator_read d) ts) _ _ e in
    let all = lists.some_sound JDeclarator (declarator_read d) declarator_tokens (DeclaratorStands d) (declarator_sound d) ts n.0 n.1 in
    let P : JDeclaration × Tokens → Type 0 = λ x. (final_tokens is_final ++ (type_tokens kind ++ ts) ≡ declaration_tokens x.0 ++ x.1) × DeclarationStands d x.0 in
    subst P (some_same n.2) (
      ap (λ r. final_tokens is_final ++ (type_tokens kind ++ r)) all.same ∙ sym (three (final_tokens is_final) (type_tokens kind) (listed n.0.0.1 (map declarator_tokens n.0.0.0)) n.0.1),
      record { kind = good; some_name = all.full; between = all.between; all = all.all },
    )

pub final_text : (ts : Tokens) → ts ≡ final_tokens (final_first ts).0 ++ (final_first ts).1
final_text (Token.Word w.Final at ∷ rest) = refl
final_text _ = refl

-- A declaration that is read is spelled so.
pub declaration_sound : (d : ℕ) (ts : Tokens) (x : JDeclaration × Tokens) → declaration_read d ts ≡ Some x → (ts ≡ declaration_tokens x.0 ++ x.1) × DeclarationStands d x.0
unfolding declaration_read
declaration_sound d ts x e =
    let k = bind_some (r.type_read d (final_first ts).1) _ _ e in
    let t = type_sound d (final_first ts).1 k.0 k.1 in
    let i = of_sound d (final_first ts).0 k.0.0 k.0.1 x t.1 k.2 in
    (final_text ts ∙ ap (λ r. final_tokens (final_first ts).0 ++ r) t.0 ∙ i.0, i.1)

-- ---- what is spelled so is read

no_value : (d : ℕ) (rest : Tokens) → after rest < 1 → value_by d rest ≡ Some (None, rest)
unfolding r.suffix
no_value d (Token.Sign m.Assign at ∷ rest) h = absurd (omega (arith, h))
no_value d _ h = refl

value_again : (d : ℕ) (x : Option JValue) → value_stands d x → (rest : Tokens) → after rest < 1 → value_by d (value_tokens x ++ rest) ≡ Some (x, rest)
value_again d None s rest h = no_value d rest h
value_again d (Some x) s rest h = rw (again d init_level x.tree s rest h (omega (arith, bound_pos x.tree))) refl

declarator_again : (d : ℕ) (x : JDeclarator) → DeclaratorStands d x → (rest : Tokens) → after rest < 1 → declarator_read d (declarator_tokens x ++ rest) ≡ Some (x, rest)
unfolding declarator_read DeclaratorStands
declarator_again zero x s rest h = absurd s
declarator_again (suc d) x s rest h = rw (value_again d x.value s rest h) refl

pub names_again : (d : ℕ) (names : List JDeclarator) (commas : List Position) (rest : Tokens) → 1 ≤ length names → AreBetween commas names → AllByRecursion (DeclaratorStands d) names
    → ends_expressions rest ≡ true → r.some_by r.comma (declarator_read d) (listed commas (map declarator_tokens names) ++ rest) ≡ Some ((names, commas), rest)
names_again d [] commas rest some b all e = absurd (omega (arith, some))
names_again d (n ∷ ns) commas rest some b all e =
    lists.some_again JDeclarator (declarator_read d) declarator_tokens (DeclaratorStands d) (λ rest. after rest < 1) commas_lower (declarator_again d) n ns commas rest b all (end_low rest e) (end_no_comma rest e)

-- behind the type
pub of_again : (d : ℕ) (x : JDeclaration) → DeclarationStands d x → (rest : Tokens) → ends_expressions rest ≡ true
    → declaration_of d x.is_final x.kind (listed x.commas (map declarator_tokens x.names) ++ rest) ≡ Some (x, rest)
unfolding declaration_of
of_again d x s rest e = rw (names_again d x.names x.commas rest s.some_name s.between s.all e) refl

-- No type begins with `final`.
not_final : (d : ℕ) (ts : Tokens) (x : JType × Tokens) → r.type_read d ts ≡ Some x → final_first ts ≡ (None, ts)
unfolding r.type_read r.base_step
not_final zero ts x e = absurd (cc e)
not_final (suc d) (Token.Word w.Final at ∷ rest) x e = absurd (cc e)
not_final (suc d) _ x e = refl

pub final_again : (d : ℕ) (is_final : Option Position) (ts : Tokens) (x : JType × Tokens) → r.type_read d ts ≡ Some x → final_first (final_tokens is_final ++ ts) ≡ (is_final, ts)
final_again d None ts x e = not_final d ts x e
final_again d (Some at) ts x e = refl

pub names_end : (names : List JDeclarator) (commas : List Position) (rest : Tokens) → 1 ≤ length names → EndsType (listed commas (map declarator_tokens names) ++ rest)
names_end [] commas rest some = absurd (omega (arith, some))
names_end (n ∷ ns) commas rest some = (refl, refl, refl)

names_declare : (names : List JDeclarator) (commas : List Position) (rest : Tokens) → 1 ≤ length names → declares (dotted (listed commas (map declarator_tokens names) ++ rest)).1 ≡ true
unfolding dotted
names_declare [] commas rest some = absurd (omega (arith, some))
names_declare (n ∷ ns) commas rest some = refl

-- the names, and what follows the declaration
abbrev pub names_text : JDeclaration → Tokens → Tokens
names_text x rest = listed x.commas (map declarator_tokens x.names) ++ rest

pub declaration_text : (x : JDeclaration) (rest : Tokens) → declaration_tokens x ++ rest ≡ final_tokens x.is_final ++ (type_tokens x.kind ++ names_text x rest)
declaration_text x rest = three (final_tokens x.is_final) (type_tokens x.kind) (listed x.commas (map declarator_tokens x.names)) rest

-- the type of a declaration is read
pub kind_again : (d : ℕ) (x : JDeclaration) → DeclarationStands d x → (rest : Tokens) → r.type_read d (type_tokens x.kind ++ names_text x rest) ≡ Some (x.kind, names_text x rest)
kind_again d x s rest = type_again d x.kind s.kind (names_text x rest) (names_end x.names x.commas rest s.some_name)

read_from : (d : ℕ) (is_final : Option Position) (kind : JType) (ts us rest : Tokens) → final_first ts ≡ (is_final, us) → r.type_read d us ≡ Some (kind, rest)
    → declaration_read d ts ≡ declaration_of d is_final kind rest
unfolding declaration_read
read_from d is_final kind ts us rest f t =
    ap (λ (y : Option Position × Tokens). r.type_read d y.1 >>= λ kind. declaration_of d y.0 kind.0 kind.1) f
    ∙ ap (λ (o : Option (JType × Tokens)). o >>= λ kind. declaration_of d is_final kind.0 kind.1) t

-- A declaration that is spelled so is read, up to a `;` or the end.
pub declaration_again : (d : ℕ) (x : JDeclaration) → DeclarationStands d x → (rest : Tokens) → ends_expressions rest ≡ true → declaration_read d (declaration_tokens x ++ rest) ≡ Some (x, rest)
declaration_again d x s rest e =
    let t = kind_again d x s rest in
    ap (declaration_read d) (declaration_text x rest)
    ∙ read_from d x.is_final x.kind _ _ (names_text x rest) (final_again d x.is_final _ (x.kind, names_text x rest) t) t
    ∙ of_again d x s rest e

pub declaration_begins : (d : ℕ) (x : JDeclaration) → DeclarationStands d x → (rest : Tokens) → begins_declaration (declaration_tokens x ++ rest) ≡ true
declaration_begins d x s rest =
    ap begins_declaration (declaration_text x rest) ∙ kind_declares d x.is_final x.kind s.kind (names_text x rest) (names_declare x.names x.commas rest s.some_name)
