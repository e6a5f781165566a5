-- What stands before the `;` of a statement: what is read is spelled so, and what is spelled so is read.
use Rattle.std.proofs.Common.{suc, ◌≡◌, ◌<◌, ℕ, true, false, ◌++◌, List, [], ◌∷◌, map, Option, Some, None, inl, inr, refl, ap, sym, ◌∙◌, subst, arith}
use Rattle.std.specs.List.{AllByRecursion}
use Rattle.std.proofs.lemmas.List.{append-nil}
use Rattle.java_tree.specs.declared.tokens.Position.{Position}
use Rattle.java_tree.specs.declared.tokens.Mark.TheVariants as m
use Rattle.java_tree.specs.declared.tokens.Keyword.{Keyword}
use Rattle.java_tree.specs.declared.tokens.Keyword.TheVariants as w
use Rattle.java_tree.specs.Seen.{Token, Tokens}
use Rattle.java_tree.specs.declared.exprs.JExpr.{JExpr}
use Rattle.java_tree.specs.Trees.{listed, AreBetween, tokens, any_level, Stands}
use Rattle.java_expr_grammar.specs.Reading as r
use Rattle.java_expr_grammar.specs.Reading.{◌>>=◌, whole, Listed}
use Rattle.java_expr_grammar.proofs.LawsToCite.{bind_some, guard_some, cond_is, some_same, First, first, starts, sound, args_sound, close_only, again, after, args_again}
use Rattle.java_statement_grammar.specs.declared.declarations.JDeclaration.{JDeclaration}
use Rattle.java_statement_grammar.specs.declared.statements.JLabelName.{JLabelName}
use Rattle.java_statement_grammar.specs.declared.statements.JSimple.{JSimple}
use Rattle.java_statement_grammar.specs.declared.statements.JSimple.TheVariants as simple
use Rattle.java_statement_grammar.specs.Heads.{declaration_tokens, DeclarationStands, is_statement, StatementStands, label_tokens, maybe_tokens, simple_tokens, maybe_stands, SimpleStands}
use Rattle.java_statement_grammar.specs.Reading.{begins_declaration, word_declares, declaration_read, statement_read, expression, declaration, plain, label_of, value_of, args_read, this_call, super_call, behind_this, behind_super, worded, simple_read}
use Rattle.java_statement_grammar.proofs.Whole.{whole_only, whole_again, read_sound, any_again, end_low, read_again}
use Rattle.java_statement_grammar.proofs.Begins.{Plain, constructs, statement_plain}
use Rattle.java_statement_grammar.proofs.Declared.{declaration_sound, declaration_again, declaration_begins}

-- ---- what is read is spelled so

pub statement_sound : (d : ℕ) (ts : Tokens) (x : JExpr × Tokens) → statement_read d ts ≡ Some x → (ts ≡ tokens x.0 ++ x.1) × StatementStands d x.0
unfolding statement_read
statement_sound d ts x e =
    let a = bind_some (r.read d any_level ts) _ _ e in
    let g = guard_some (is_statement a.0.0) (Some a.0) x a.2 in
    let i = sound d any_level ts a.0 a.1 in
    let P : JExpr × Tokens → Type 0 = λ x. (ts ≡ tokens x.0 ++ x.1) × StatementStands d x.0 in
    subst P (some_same g.1) (i.0, record { stands = i.1; form = g.0 })

-- It spells the tokens, and stands.
abbrev Simply : ℕ → Tokens → JSimple → Type 0
Simply d ts x = (simple_tokens x ≡ ts) × SimpleStands d x

expression_sound : (d : ℕ) (ts : Tokens) (x : JSimple) → expression d ts ≡ Some x → Simply d ts x
unfolding expression
expression_sound d ts x e =
    let a = bind_some (whole (statement_read d ts)) _ _ e in
    let i = statement_sound d ts (a.0, []) (whole_only (statement_read d ts) a.0 a.1) in
    subst (Simply d ts) (some_same a.2) (sym (i.0 ∙ append-nil (tokens a.0)), i.1)

declared_sound : (d : ℕ) (ts : Tokens) (x : JSimple) → declaration d ts ≡ Some x → Simply d ts x
unfolding declaration
declared_sound d ts x e =
    let a = bind_some (whole (declaration_read d ts)) _ _ e in
    let i = declaration_sound d ts (a.0, []) (whole_only (declaration_read d ts) a.0 a.1) in
    subst (Simply d ts) (some_same a.2) (sym (i.0 ∙ append-nil (declaration_tokens a.0)), i.1)

plain_sound : (d : ℕ) (ts : Tokens) (x : JSimple) → plain d ts ≡ Some x → Simply d ts x
plain_sound d ts x e = elim (cond_is (begins_declaration ts) (declaration d ts) (expression d ts) (Some x) e) [
  | inl a ↦ declared_sound d ts x a.1
  | inr a ↦ expression_sound d ts x a.1
]

label_sound : (ts : Tokens) (x : Option JLabelName) → label_of ts ≡ Some x → label_tokens x ≡ ts
label_sound [] x e = subst (λ (z : Option JLabelName). label_tokens z ≡ []) (some_same e) refl
label_sound (Token.Id n at ∷ []) x e = subst (λ (z : Option JLabelName). label_tokens z ≡ Token.Id n at ∷ []) (some_same e) refl
label_sound _ x e = absurd (cc e)

some_value_sound : (d : ℕ) (ts : Tokens) (x : Option JExpr) → (whole (r.read d any_level ts) >>= λ x. Some (Some x)) ≡ Some x → (maybe_tokens x ≡ ts) × maybe_stands d x
some_value_sound d ts x e =
    let a = bind_some (whole (r.read d any_level ts)) _ _ e in
    let P : Option JExpr → Type 0 = λ x. (maybe_tokens x ≡ ts) × maybe_stands d x in
    subst P (some_same a.2) (read_sound d any_level ts a.0 a.1)

value_sound : (d : ℕ) (ts : Tokens) (x : Option JExpr) → value_of d ts ≡ Some x → (maybe_tokens x ≡ ts) × maybe_stands d x
value_sound d [] x e = let P : Option JExpr → Type 0 = λ x. (maybe_tokens x ≡ []) × maybe_stands d x in subst P (some_same e) (refl, tt)
value_sound d ts x e = some_value_sound d ts x e

args_read_sound : (d : ℕ) (ts : Tokens) (x : (Listed JExpr × Position) × Tokens) → args_read d ts ≡ Some x
    → (ts ≡ listed x.0.0.1 (map tokens x.0.0.0) ++ Token.Sign m.CloseRound x.0.1 ∷ x.1) × AreBetween x.0.0.1 x.0.0.0 × AllByRecursion (Stands d any_level) x.0.0.0
unfolding args_read
args_read_sound d ts x e =
    let a = bind_some (r.args_from (r.type_read d) (r.base_read (suc d)) (r.typed_read d) (r.read d) ts) _ _ e in
    let c = bind_some (r.close a.0.1) _ _ a.2 in
    let i = args_sound d (sound d) ts a.0 a.1 in
    let P : (Listed JExpr × Position) × Tokens → Type 0 =
    λ x. (ts ≡ listed x.0.0.1 (map tokens x.0.0.0) ++ Token.Sign m.CloseRound x.0.1 ∷ x.1) × AreBetween x.0.0.1 x.0.0.0 × AllByRecursion (Stands d any_level) x.0.0.0 in
    subst P (some_same c.2) (i.0 ∙ ap (λ r. listed a.0.0.1 (map tokens a.0.0.0) ++ r) (close_only _ c.0 c.1), i.1, i.2)

this_sound : (d : ℕ) (at lp : Position) (ts : Tokens) (x : JSimple) → this_call d at lp ts ≡ Some x → Simply d (Token.Word w.This at ∷ Token.Sign m.OpenRound lp ∷ ts) x
unfolding this_call
this_sound d at lp ts x e =
    let a = bind_some (whole (args_read d ts)) _ _ e in
    let i = args_read_sound d ts (a.0, []) (whole_only (args_read d ts) a.0 a.1) in
    subst (Simply d (Token.Word w.This at ∷ Token.Sign m.OpenRound lp ∷ ts)) (some_same a.2) (ap (λ r. Token.Word w.This at ∷ Token.Sign m.OpenRound lp ∷ r) (sym i.0), (i.1, i.2))

super_sound : (d : ℕ) (at lp : Position) (ts : Tokens) (x : JSimple) → super_call d at lp ts ≡ Some x → Simply d (Token.Word w.Super at ∷ Token.Sign m.OpenRound lp ∷ ts) x
unfolding super_call
super_sound d at lp ts x e =
    let a = bind_some (whole (args_read d ts)) _ _ e in
    let i = args_read_sound d ts (a.0, []) (whole_only (args_read d ts) a.0 a.1) in
    subst (Simply d (Token.Word w.Super at ∷ Token.Sign m.OpenRound lp ∷ ts)) (some_same a.2) (ap (λ r. Token.Word w.Super at ∷ Token.Sign m.OpenRound lp ∷ r) (sym i.0), (i.1, i.2))

behind_this_sound : (d : ℕ) (at : Position) (ts : Tokens) (x : JSimple) → behind_this d at ts ≡ Some x → Simply d (Token.Word w.This at ∷ ts) x
behind_this_sound d at (Token.Sign m.OpenRound lp ∷ rest) x e = this_sound d at lp rest x e
behind_this_sound d at rest x e = expression_sound d (Token.Word w.This at ∷ rest) x e

behind_super_sound : (d : ℕ) (at : Position) (ts : Tokens) (x : JSimple) → behind_super d at ts ≡ Some x → Simply d (Token.Word w.Super at ∷ ts) x
behind_super_sound d at (Token.Sign m.OpenRound lp ∷ rest) x e = super_sound d at lp rest x e
behind_super_sound d at rest x e = expression_sound d (Token.Word w.Super at ∷ rest) x e

worded_sound : (d : ℕ) (word : Keyword) (at : Position) (rest : Tokens) (x : JSimple) → worded d word at rest ≡ Some x → Simply d (Token.Word word at ∷ rest) x
unfolding worded
worded_sound d w.Break at rest x e =
    let a = bind_some (label_of rest) _ _ e in
    subst (Simply d (Token.Word w.Break at ∷ rest)) (some_same a.2) (ap (λ r. Token.Word w.Break at ∷ r) (label_sound rest a.0 a.1), tt)
worded_sound d w.Continue at rest x e =
    let a = bind_some (label_of rest) _ _ e in
    subst (Simply d (Token.Word w.Continue at ∷ rest)) (some_same a.2) (ap (λ r. Token.Word w.Continue at ∷ r) (label_sound rest a.0 a.1), tt)
worded_sound d w.Return at rest x e =
    let a = bind_some (value_of d rest) _ _ e in
    let i = value_sound d rest a.0 a.1 in
    subst (Simply d (Token.Word w.Return at ∷ rest)) (some_same a.2) (ap (λ r. Token.Word w.Return at ∷ r) i.0, i.1)
worded_sound d w.Throw at rest x e =
    let a = bind_some (whole (r.read d any_level rest)) _ _ e in
    let i = read_sound d any_level rest a.0 a.1 in
    subst (Simply d (Token.Word w.Throw at ∷ rest)) (some_same a.2) (ap (λ r. Token.Word w.Throw at ∷ r) i.0, i.1)
worded_sound d w.This at rest x e = behind_this_sound d at rest x e
worded_sound d w.Super at rest x e = behind_super_sound d at rest x e
worded_sound d word at rest x e = plain_sound d (Token.Word word at ∷ rest) x e

simple_sound : (d : ℕ) (ts : Tokens) (x : JSimple) → simple_read d ts ≡ Some x → Simply d ts x
unfolding simple_read
simple_sound d [] x e = subst (Simply d []) (some_same e) (refl, tt)
simple_sound d (Token.Word word at ∷ rest) x e = worded_sound d word at rest x e
simple_sound d ts x e = plain_sound d ts x e

-- ---- what is spelled so is read

pub statement_again : (d : ℕ) (x : JExpr) → StatementStands d x → (rest : Tokens) → after rest < 2 → statement_read d (tokens x ++ rest) ≡ Some (x, rest)
unfolding statement_read
statement_again d x s rest h = rw (any_again d x s.stands rest h, s.form) refl

expression_again : (d : ℕ) (x : JExpr) → StatementStands d x → expression d (tokens x) ≡ Some (simple.Expression x)
unfolding expression
expression_again d x s = rw (whole_again (statement_read d) (tokens x) x (statement_again d x s [] (omega (arith, end_low [] refl)))) refl

declared_again : (d : ℕ) (x : JDeclaration) → DeclarationStands d x → declaration d (declaration_tokens x) ≡ Some (simple.Declaration x)
unfolding declaration
declared_again d x s = rw (whole_again (declaration_read d) (declaration_tokens x) x (declaration_again d x s [] refl)) refl

word_is : (d : ℕ) (word : Keyword) (at : Position) (rest : Tokens) → word_declares word ≡ true → worded d word at rest ≡ declaration d (Token.Word word at ∷ rest)
unfolding worded
word_is d w.Final at rest h = refl
word_is d w.Byte at rest h = refl
word_is d w.Short at rest h = refl
word_is d w.Char at rest h = refl
word_is d w.Int at rest h = refl
word_is d w.Long at rest h = refl
word_is d w.Boolean at rest h = refl
word_is d _ at rest h = absurd (cc h)

declaration_is : (d : ℕ) (ts : Tokens) → begins_declaration ts ≡ true → simple_read d ts ≡ declaration d ts
unfolding simple_read
declaration_is d (Token.Word word at ∷ rest) h = word_is d word at rest h
declaration_is d (Token.Id n at ∷ rest) h = rw h refl
declaration_is d _ h = absurd (cc h)

word_expresses : (d : ℕ) (word : Keyword) (at : Position) (rest : Tokens) → starts (Token.Word word at) ≡ true → constructs (Token.Word word at ∷ rest) ≡ false
    → worded d word at rest ≡ expression d (Token.Word word at ∷ rest)
unfolding worded
word_expresses d w.This at (Token.Sign m.OpenRound lp ∷ rest) s h = absurd (cc h)
word_expresses d w.This at _ s h = refl
word_expresses d w.Super at (Token.Sign m.OpenRound lp ∷ rest) s h = absurd (cc h)
word_expresses d w.Super at _ s h = refl
word_expresses d w.New at rest s h = refl
word_expresses d _ at rest s h = absurd (cc s)

head_is : (d : ℕ) (x : Token) (ts : Tokens) → starts x ≡ true → Plain (x ∷ ts) → simple_read d (x ∷ ts) ≡ expression d (x ∷ ts)
unfolding simple_read
head_is d (Token.Word word at) ts s h = word_expresses d word at ts s h.1
head_is d (Token.Id n at) ts s h = rw h.0 refl
head_is d _ ts s h = refl

expression_is : (d : ℕ) (ts : Tokens) → First ts → Plain ts → simple_read d ts ≡ expression d ts
expression_is d ts f h =
    let P : Tokens → Type 0 = λ ts. Plain ts → simple_read d ts ≡ expression d ts in
    subst P (sym f.is) (head_is d f.head f.tail f.starts) h

label_again : (x : Option JLabelName) → label_of (label_tokens x) ≡ Some x
label_again None = refl
label_again (Some x) = refl

value_is : (d : ℕ) (ts : Tokens) → First ts → value_of d ts ≡ (whole (r.read d any_level ts) >>= λ x. Some (Some x))
value_is d ts f = subst (λ ts. value_of d ts ≡ (whole (r.read d any_level ts) >>= λ x. Some (Some x))) (sym f.is) refl

value_again : (d : ℕ) (x : Option JExpr) → maybe_stands d x → value_of d (maybe_tokens x) ≡ Some x
value_again d None s = refl
value_again d (Some x) s = value_is d (tokens x) (first d any_level x (omega arith) s) ∙ rw (read_again d x s) refl

args_read_again : (d : ℕ) (args : List JExpr) (commas : List Position) (rp : Position) → AreBetween commas args → AllByRecursion (Stands d any_level) args
    → args_read d (listed commas (map tokens args) ++ Token.Sign m.CloseRound rp ∷ []) ≡ Some (((args, commas), rp), [])
unfolding args_read
args_read_again d args commas rp b all = rw (args_again d (again d) args commas rp None [] b all) refl

simple_again : (d : ℕ) (x : JSimple) → SimpleStands d x → simple_read d (simple_tokens x) ≡ Some x
unfolding simple_read worded this_call super_call
simple_again d simple.Empty s = refl
simple_again d (simple.Declaration x) s =
    declaration_is d (declaration_tokens x) (ap begins_declaration (sym (append-nil (declaration_tokens x))) ∙ declaration_begins d x s []) ∙ declared_again d x s
simple_again d (simple.Expression x) s =
    expression_is d (tokens x) (first d any_level x (omega arith) s.stands) (subst Plain (append-nil (tokens x)) (statement_plain d x s [])) ∙ expression_again d x s
simple_again d (simple.Break at x) s = rw (label_again x) refl
simple_again d (simple.Continue at x) s = rw (label_again x) refl
simple_again d (simple.Return at x) s = rw (value_again d x s) refl
simple_again d (simple.Throw at x) s = rw (read_again d x s) refl
simple_again d (simple.ThisCall at lp args commas rp) s = rw (args_read_again d args commas rp s.0 s.1) refl
simple_again d (simple.SuperCall at lp args commas rp) s = rw (args_read_again d args commas rp s.0 s.1) refl

-- ---- the laws

-- What is read is spelled so, and stands.
pub simple_is_spelled : (d : ℕ) (ts : Tokens) (x : JSimple) → simple_read d ts ≡ Some x → (simple_tokens x ≡ ts) × SimpleStands d x
simple_is_spelled d ts x e = simple_sound d ts x e

-- What is spelled so is read.
pub simple_is_read : (d : ℕ) (ts : Tokens) (x : JSimple) → SimpleStands d x → simple_tokens x ≡ ts → simple_read d ts ≡ Some x
simple_is_read d ts x s same = subst (λ ts. simple_read d ts ≡ Some x) same (simple_again d x s)
