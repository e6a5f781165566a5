-- Types: what is read is spelled so, and what is spelled so is read.
use Rattle.std.proofs.Common.{◌≡◌, ◌≤◌, ℕ, zero, suc, Bool, true, false, ◌++◌, List, [], ◌∷◌, length, map, Option, Some, None, refl, ap, sym, ◌∙◌, subst, append_assoc, arith, nat_le}
use Rattle.std.specs.List.{AllByRecursion}
use Rattle.java_tree.specs.declared.tokens.Position.{Position}
use Rattle.java_tree.specs.declared.tokens.Mark.TheVariants as m
use Rattle.java_tree.specs.Seen.{Token, Tokens}
use Rattle.java_tree.specs.declared.tokens.Keyword.{Keyword}
use Rattle.java_tree.specs.declared.tokens.Keyword.TheVariants as w
use Rattle.java_tree.specs.declared.types.Primitive.{Primitive}
use Rattle.java_tree.specs.declared.types.Primitive.TheVariants as primitive
use Rattle.java_tree.specs.declared.types.JDotted.{JDotted}
use Rattle.java_tree.specs.declared.types.JQualified.{JQualified}
use Rattle.java_tree.specs.declared.types.JBrackets.{JBrackets}
use Rattle.java_tree.specs.declared.types.JType.{JType, out-JType, roll-JType, roll-out-JType}
use Rattle.java_tree.specs.declared.types.JType.TheVariants as ty
use Rattle.java_tree.specs.declared.types.JType.TheOpen.{JType-F}
use Rattle.java_tree.specs.declared.exprs.JParam.{JParam}
use Rattle.java_tree.specs.declared.exprs.JTypedParam.{JTypedParam}
use Rattle.java_tree.specs.Trees.{listed, AreBetween, closing, primitive_word, dotted_tokens, qualified_tokens, brackets_tokens, type_tokens, type_depth, is_array, is_array_by, type_stands_by, TypeStands, TypedStands, param_tokens, final_tokens, typed_tokens}
use Rattle.java_expr_grammar.specs.Reading.{Reader, ◌>>=◌, comma, closes, ident, some_by, dotted, qualified, brackets, applied, class_by, primitive_by, primitive_at, base_step, array_by, type_read, base_read, typed_by, typed_step, typed_read}
use Rattle.java_expr_grammar.proofs.Tools.{bind_some, guard_some, some_same, le_true, true_le}
use Rattle.java_expr_grammar.proofs.TypeTexts.{tokens_Primitive, tokens_Class, tokens_Applied, tokens_Array}
use Rattle.java_expr_grammar.proofs.Lists as lists
use Rattle.java_expr_grammar.proofs.Trees.{type_within, type_resize}

-- ---- names with dots, and brackets

pub dotted_sound : (ts : Tokens) → ts ≡ dotted_tokens (dotted ts).0 ++ (dotted ts).1
unfolding dotted
dotted_sound (Token.Sign m.Dot d ∷ Token.Id n at ∷ rest) = ap (λ r. Token.Sign m.Dot d ∷ Token.Id n at ∷ r) (dotted_sound rest)
dotted_sound _ = refl

pub qualified_sound : (n : List ℕ) (at : Position) (ts : Tokens) → Token.Id n at ∷ ts ≡ qualified_tokens (qualified n at ts).0 ++ (qualified n at ts).1
qualified_sound n at ts = ap (λ r. Token.Id n at ∷ r) (dotted_sound ts)

pub brackets_sound : (ts : Tokens) → ts ≡ brackets_tokens (brackets ts).0 ++ (brackets ts).1
unfolding brackets
brackets_sound (Token.Sign m.OpenSquare o ∷ Token.Sign m.CloseSquare c ∷ rest) = ap (λ r. Token.Sign m.OpenSquare o ∷ Token.Sign m.CloseSquare c ∷ r) (brackets_sound rest)
brackets_sound _ = refl

abbrev pub begins_member : Tokens → Bool
begins_member (Token.Sign m.Dot d ∷ Token.Id n at ∷ rest) = true
begins_member _ = false

abbrev pub begins_less : Tokens → Bool
begins_less (Token.Sign m.Less at ∷ rest) = true
begins_less _ = false

abbrev pub begins_pair : Tokens → Bool
begins_pair (Token.Sign m.OpenSquare o ∷ Token.Sign m.CloseSquare c ∷ rest) = true
begins_pair _ = false

-- nothing that goes on with a type that has no brackets yet, but brackets
abbrev pub EndsBase : Tokens → Type 0
EndsBase ts = (begins_member ts ≡ false) × (begins_less ts ≡ false)

-- nothing that goes on with a type
abbrev pub EndsType : Tokens → Type 0
EndsType ts = (begins_member ts ≡ false) × (begins_less ts ≡ false) × (begins_pair ts ≡ false)

pub not_dotted : (ts : Tokens) → begins_member ts ≡ false → dotted ts ≡ ([], ts)
unfolding dotted
not_dotted (Token.Sign m.Dot d ∷ Token.Id n at ∷ rest) h = absurd (cc h)
not_dotted _ h = refl

pub dotted_again : (xs : List JDotted) (rest : Tokens) → begins_member rest ≡ false → dotted (dotted_tokens xs ++ rest) ≡ (xs, rest)
unfolding dotted
dotted_again [] rest h = not_dotted rest h
dotted_again (x ∷ xs) rest h = ap (λ (y : List JDotted × Tokens). (x ∷ y.0, y.1)) (dotted_again xs rest h)

pub qualified_again : (q : JQualified) (rest : Tokens) → begins_member rest ≡ false → qualified q.name q.at (dotted_tokens q.rest ++ rest) ≡ (q, rest)
qualified_again q rest h = ap (λ (y : List JDotted × Tokens). (record { name = q.name; at = q.at; rest = y.0 }, y.1)) (dotted_again q.rest rest h)

pub no_brackets : (ts : Tokens) → begins_pair ts ≡ false → brackets ts ≡ ([], ts)
unfolding brackets
no_brackets (Token.Sign m.OpenSquare o ∷ Token.Sign m.CloseSquare c ∷ rest) h = absurd (cc h)
no_brackets _ h = refl

pub brackets_again : (xs : List JBrackets) (rest : Tokens) → begins_pair rest ≡ false → brackets (brackets_tokens xs ++ rest) ≡ (xs, rest)
unfolding brackets
brackets_again [] rest h = no_brackets rest h
brackets_again (x ∷ xs) rest h = ap (λ (y : List JBrackets × Tokens). (x ∷ y.0, y.1)) (brackets_again xs rest h)

-- ---- what is read is spelled so

pub closes_only : (ts : Tokens) (c : (Bool × Position) × Tokens) → closes ts ≡ Some c → ts ≡ Token.Sign (closing c.0.0) c.0.1 ∷ c.1
closes_only (Token.Sign m.Greater at ∷ rest) c e = let same : ((false, at), rest) ≡ c = some_same e in ap (λ (x : (Bool × Position) × Tokens). Token.Sign (closing x.0.0) x.0.1 ∷ x.1) same
closes_only (Token.Sign m.GreaterJoined at ∷ rest) c e = let same : ((true, at), rest) ≡ c = some_same e in ap (λ (x : (Bool × Position) × Tokens). Token.Sign (closing x.0.0) x.0.1 ∷ x.1) same
closes_only _ c e = absurd (cc e)

pub ident_only : (ts : Tokens) (c : JParam × Tokens) → ident ts ≡ Some c → ts ≡ param_tokens c.0 ++ c.1
ident_only (Token.Id n at ∷ rest) c e = let same : (record { name = n; at = at }, rest) ≡ c = some_same e in ap (λ (x : JParam × Tokens). param_tokens x.0 ++ x.1) same
ident_only _ c e = absurd (cc e)

primitive_only : (word : Keyword) (p : Primitive) → primitive_by word ≡ Some p → word ≡ primitive_word p
primitive_only w.Byte p e = let same : primitive.Byte ≡ p = some_same e in ap primitive_word same
primitive_only w.Short p e = let same : primitive.Short ≡ p = some_same e in ap primitive_word same
primitive_only w.Char p e = let same : primitive.Char ≡ p = some_same e in ap primitive_word same
primitive_only w.Int p e = let same : primitive.Int ≡ p = some_same e in ap primitive_word same
primitive_only w.Long p e = let same : primitive.Long ≡ p = some_same e in ap primitive_word same
primitive_only w.Boolean p e = let same : primitive.Boolean ≡ p = some_same e in ap primitive_word same
primitive_only _ p e = absurd (cc e)

-- what a reader of types gives
pub record Takes (P : JType → Type 0) (ts : Tokens) (x : JType × Tokens) : Type 0 where
  pub same : ts ≡ type_tokens x.0 ++ x.1
  pub stands : P x.0

-- a type with a depth of at most suc d that is no array
abbrev Base : ℕ → JType → Type 0
Base d x = TypeStands (suc d) x × (is_array x ≡ false)

primitive_sound : (d : ℕ) (word : Keyword) (o : Option Primitive) (at : Position) (rest : Tokens) (x : JType × Tokens)
    → primitive_by word ≡ o → primitive_at o at rest ≡ Some x → Takes (Base d) (Token.Word word at ∷ rest) x
unfolding TypeStands
primitive_sound d word None at rest x h e = absurd (cc e)
primitive_sound d word (Some p) at rest x h e =
    let same : (ty.Primitive p at, rest) ≡ x = some_same e in
    subst (λ (x : JType × Tokens). Takes (Base d) (Token.Word word at ∷ rest) x) same (record {
      same = rw (tokens_Primitive p at, primitive_only word p h) refl;
      stands = (subst (type_stands_by (TypeStands d)) (sym (ty.outs-Primitive p at)) tt, ap is_array_by (ty.outs-Primitive p at));
    })

abbrev Sounds : ℕ → Type 0
Sounds d = (ts : Tokens) (x : JType × Tokens) → type_read d ts ≡ Some x → (ts ≡ type_tokens x.0 ++ x.1) × TypeStands d x.0

applied_sound : (d : ℕ) (q : JQualified) (lp : Position) (ts : Tokens) (x : JType × Tokens)
    → Sounds d → applied (type_read d) q lp ts ≡ Some x → Takes (Base d) (qualified_tokens q ++ Token.Sign m.Less lp ∷ ts) x
unfolding applied TypeStands
applied_sound d q lp ts x s e =
    let a = bind_some (some_by comma (type_read d) ts) _ _ e in
    let all = lists.some_sound JType (type_read d) type_tokens (TypeStands d) s ts a.0 a.1 in
    let c = bind_some (closes a.0.1) _ _ a.2 in
    let same = some_same c.2 in
    subst (λ (x : JType × Tokens). Takes (Base d) (qualified_tokens q ++ Token.Sign m.Less lp ∷ ts) x) same (record {
      same = rw tokens_Applied (ap (λ r. qualified_tokens q ++ Token.Sign m.Less lp ∷ r)
          (all.same ∙ ap (λ r. listed a.0.0.1 (map type_tokens a.0.0.0) ++ r) (closes_only _ c.0 c.1) ∙ sym (append_assoc (listed a.0.0.1 (map type_tokens a.0.0.0)) _ c.0.1))
          ∙ sym (append_assoc (qualified_tokens q) _ c.0.1));
      stands = (
        subst (type_stands_by (TypeStands d)) (sym (ty.outs-Applied q lp a.0.0.0 a.0.0.1 c.0.0.0 c.0.0.1)) (all.full, all.between, all.all),
        ap is_array_by (ty.outs-Applied q lp a.0.0.0 a.0.0.1 c.0.0.0 c.0.0.1),
      );
    })

class_sound : (d : ℕ) (q : JQualified) (ts : Tokens) (x : JType × Tokens)
    → Sounds d → class_by (type_read d) q ts ≡ Some x → Takes (Base d) (qualified_tokens q ++ ts) x
unfolding TypeStands
class_sound d q (Token.Sign m.Less lp ∷ ts) x s e = applied_sound d q lp ts x s e
class_sound d q ts x s e =
    let same : (ty.Class q, ts) ≡ x = some_same e in
    subst (λ (x : JType × Tokens). Takes (Base d) (qualified_tokens q ++ ts) x) same (record {
      same = rw (tokens_Class q) refl;
      stands = (subst (type_stands_by (TypeStands d)) (sym (ty.outs-Class q)) tt, ap is_array_by (ty.outs-Class q));
    })

step_sound : (d : ℕ) (ts : Tokens) (x : JType × Tokens) → Sounds d → base_step (type_read d) ts ≡ Some x → Takes (Base d) ts x
unfolding base_step
step_sound d (Token.Id n at ∷ rest) x s e =
    subst (λ ts. Takes (Base d) ts x) (sym (qualified_sound n at rest)) (class_sound d (qualified n at rest).0 (qualified n at rest).1 x s e)
step_sound d (Token.Word word at ∷ rest) x s e = primitive_sound d word (primitive_by word) at rest x refl e
step_sound d _ x s e = absurd (cc e)

array_sound : (d : ℕ) (element : JType) (ts : Tokens) (pairs : List JBrackets × Tokens) (x : JType × Tokens)
    → Base d element → ts ≡ brackets_tokens pairs.0 ++ pairs.1 → array_by d element pairs ≡ Some x → Takes (TypeStands (suc d)) (type_tokens element ++ ts) x
unfolding TypeStands
array_sound d element ts ([], rest) x base text e =
    subst (λ (x : JType × Tokens). Takes (TypeStands (suc d)) (type_tokens element ++ ts) x) (some_same e) (record {
      same = ap (λ r. type_tokens element ++ r) text;
      stands = base.0;
    })
array_sound d element ts (p ∷ ps, rest) x base text e =
    let g = guard_some (nat_le (type_depth element) d) (Option.Some (ty.Array element (p ∷ ps), rest)) x e in
    subst (λ (x : JType × Tokens). Takes (TypeStands (suc d)) (type_tokens element ++ ts) x) (some_same g.1) (record {
      same = rw (tokens_Array element (p ∷ ps)) (ap (λ r. type_tokens element ++ r) text ∙ sym (append_assoc (type_tokens element) (brackets_tokens (p ∷ ps)) rest));
      stands = subst (type_stands_by (TypeStands d)) (sym (ty.outs-Array element (p ∷ ps))) (omega arith, base.1, type_resize (suc d) d element base.0 (le_true _ _ g.0));
    })

pub type_sound : (d : ℕ) (ts : Tokens) (x : JType × Tokens) → type_read d ts ≡ Some x → (ts ≡ type_tokens x.0 ++ x.1) × TypeStands d x.0
unfolding type_read
type_sound zero ts x e = absurd (cc e)
type_sound (suc d) ts x e =
    let b = bind_some (base_step (type_read d) ts) _ _ e in
    let t = step_sound d ts b.0 (type_sound d) b.1 in
    let a = array_sound d b.0.0 b.0.1 (brackets b.0.1) x t.stands (brackets_sound b.0.1) b.2 in
    (t.same ∙ a.same, a.stands)

-- a type that is no array
pub base_sound : (d : ℕ) (ts : Tokens) (x : JType × Tokens) → base_read d ts ≡ Some x → (ts ≡ type_tokens x.0 ++ x.1) × TypeStands d x.0 × (is_array x.0 ≡ false)
unfolding base_read
base_sound zero ts x e = absurd (cc e)
base_sound (suc d) ts x e = let t = step_sound d ts x (type_sound d) e in (t.same, t.stands.0, t.stands.1)

typed_by_sound : (d : ℕ) (is_final : Option Position) (ts : Tokens) (x : JTypedParam × Tokens)
    → typed_by (type_read d) is_final ts ≡ Some x → (final_tokens is_final ++ ts ≡ typed_tokens x.0 ++ x.1) × TypedStands (suc d) x.0
unfolding typed_by TypedStands
typed_by_sound d is_final ts x e =
    let a = bind_some (type_read d ts) _ _ e in
    let n = bind_some (ident a.0.1) _ _ a.2 in
    let k = type_sound d ts a.0 a.1 in
    let P : JTypedParam × Tokens → Type 0 = λ x. (final_tokens is_final ++ ts ≡ typed_tokens x.0 ++ x.1) × TypedStands (suc d) x.0 in
    subst P (some_same n.2) (
      ap (λ r. final_tokens is_final ++ r) (k.0 ∙ ap (λ r. type_tokens a.0.0 ++ r) (ident_only a.0.1 n.0 n.1) ∙ sym (append_assoc (type_tokens a.0.0) (param_tokens n.0.0) n.0.1))
          ∙ sym (append_assoc (final_tokens is_final) (type_tokens a.0.0 ++ param_tokens n.0.0) n.0.1),
      k.1,
    )

typed_step_sound : (d : ℕ) (ts : Tokens) (x : JTypedParam × Tokens) → typed_step (type_read d) ts ≡ Some x → (ts ≡ typed_tokens x.0 ++ x.1) × TypedStands (suc d) x.0
typed_step_sound d (Token.Word w.Final at ∷ rest) x e = typed_by_sound d (Some at) rest x e
typed_step_sound d ts x e = typed_by_sound d None ts x e

pub typed_sound : (d : ℕ) (ts : Tokens) (x : JTypedParam × Tokens) → typed_read d ts ≡ Some x → (ts ≡ typed_tokens x.0 ++ x.1) × TypedStands d x.0
unfolding typed_read
typed_sound zero ts x e = absurd (cc e)
typed_sound (suc d) ts x e = typed_step_sound d ts x e

-- ---- what is spelled so is read, where nothing follows that goes on with it

abbrev Again : ℕ → JType → Type 0
Again d x = (rest : Tokens) → EndsType rest → type_read d (type_tokens x ++ rest) ≡ Some (x, rest)

class_again : (sub : Reader JType) (q : JQualified) (rest : Tokens) → begins_less rest ≡ false → class_by sub q rest ≡ Some (ty.Class q, rest)
class_again sub q (Token.Sign m.Less lp ∷ rest) h = absurd (cc h)
class_again sub q _ h = refl

primitive_again : (p : Primitive) → primitive_by (primitive_word p) ≡ Some p
primitive_again primitive.Byte = refl
primitive_again primitive.Short = refl
primitive_again primitive.Char = refl
primitive_again primitive.Int = refl
primitive_again primitive.Long = refl
primitive_again primitive.Boolean = refl

pub closes_again : (is_joined : Bool) (close : Position) (rest : Tokens) → closes (Token.Sign (closing is_joined) close ∷ rest) ≡ Some ((is_joined, close), rest)
closes_again true close rest = refl
closes_again false close rest = refl

closing_ends : (is_joined : Bool) (close : Position) (rest : Tokens) → EndsType (Token.Sign (closing is_joined) close ∷ rest)
closing_ends true close rest = (refl, refl, refl)
closing_ends false close rest = (refl, refl, refl)

no_comma : (is_joined : Bool) (close : Position) (rest : Tokens) → comma (Token.Sign (closing is_joined) close ∷ rest) ≡ None
no_comma true close rest = refl
no_comma false close rest = refl

applied_again : (d : ℕ) (q : JQualified) (lp : Position) (args : List JType) (commas : List Position) (is_joined : Bool) (close : Position) (rest : Tokens)
    → ((x : JType) → TypeStands d x → Again d x)
    → 1 ≤ length args → AreBetween commas args → AllByRecursion (TypeStands d) args
    → applied (type_read d) q lp (listed commas (map type_tokens args) ++ (Token.Sign (closing is_joined) close ∷ rest)) ≡ Some (ty.Applied q lp args commas is_joined close, rest)
unfolding applied
applied_again d q lp [] commas is_joined close rest r h b all = absurd (omega arith)
applied_again d q lp (x ∷ xs) commas is_joined close rest r h b all =
    rw (
      lists.some_again JType (type_read d) type_tokens (TypeStands d) EndsType (λ at rest. (refl, refl, refl))
          r x xs commas (Token.Sign (closing is_joined) close ∷ rest) b all (closing_ends is_joined close rest) (no_comma is_joined close rest),
      closes_again is_joined close rest,
    ) refl

-- a name, and what is read behind it
name_again : (sub : Reader JType) (q : JQualified) (rest : Tokens) (o : Option (JType × Tokens)) → begins_member rest ≡ false → class_by sub q rest ≡ o → base_step sub (qualified_tokens q ++ rest) ≡ o
unfolding base_step
name_again sub q rest o h e = ap (λ (y : JQualified × Tokens). class_by sub y.0 y.1) (qualified_again q rest h) ∙ e

primitive_step : (sub : Reader JType) (p : Primitive) (at : Position) (rest : Tokens) → base_step sub (Token.Word (primitive_word p) at ∷ rest) ≡ Some (ty.Primitive p at, rest)
unfolding base_step
primitive_step sub p at rest = rw (primitive_again p) refl

base_layer_again : (d : ℕ) (x : JType-F JType) → ((x : JType) → TypeStands d x → Again d x) → type_stands_by (TypeStands d) x → is_array_by x ≡ false
    → (rest : Tokens) → EndsBase rest → base_step (type_read d) (type_tokens (roll-JType x) ++ rest) ≡ Some (roll-JType x, rest)
base_layer_again d (JType-F.Primitive p at) r s h rest q =
    subst (λ (z : JType). base_step (type_read d) (type_tokens z ++ rest) ≡ Some (z, rest)) (sym (ty.rolls-Primitive p at))
    (rw (tokens_Primitive p at) (primitive_step (type_read d) p at rest))
base_layer_again d (JType-F.Class x) r s h rest q =
    subst (λ (z : JType). base_step (type_read d) (type_tokens z ++ rest) ≡ Some (z, rest)) (sym (ty.rolls-Class x))
    (rw (tokens_Class x) (name_again (type_read d) x rest _ q.0 (class_again (type_read d) x rest q.1)))
base_layer_again d (JType-F.Applied x lp args commas is_joined close) r s h rest q =
    subst (λ (z : JType). base_step (type_read d) (type_tokens z ++ rest) ≡ Some (z, rest)) (sym (ty.rolls-Applied x lp args commas is_joined close))
    (rw (
      tokens_Applied x lp args commas is_joined close,
      append_assoc (qualified_tokens x) (Token.Sign m.Less lp ∷ (listed commas (map type_tokens args) ++ Token.Sign (closing is_joined) close ∷ [])) rest,
      append_assoc (listed commas (map type_tokens args)) (Token.Sign (closing is_joined) close ∷ []) rest,
    )
    (name_again (type_read d) x (Token.Sign m.Less lp ∷ (listed commas (map type_tokens args) ++ Token.Sign (closing is_joined) close ∷ rest)) _ refl
    (applied_again d x lp args commas is_joined close rest r s.0 s.1 s.2)))
base_layer_again d (JType-F.Array element pairs) r s h rest q = absurd (cc h)

base_step_again : (d : ℕ) (x : JType) → ((x : JType) → TypeStands d x → Again d x) → TypeStands (suc d) x → is_array x ≡ false
    → (rest : Tokens) → EndsBase rest → base_step (type_read d) (type_tokens x ++ rest) ≡ Some (x, rest)
unfolding TypeStands
base_step_again d x r s h rest q =
    subst (λ (z : JType). base_step (type_read d) (type_tokens z ++ rest) ≡ Some (z, rest)) (roll-out-JType x) (base_layer_again d (out-JType x) r s h rest q)

then_array : (d : ℕ) (x : JType) (ts us rest : Tokens) (pairs : List JBrackets) → base_step (type_read d) ts ≡ Some (x, us) → brackets us ≡ (pairs, rest)
    → type_read (suc d) ts ≡ array_by d x (pairs, rest)
unfolding type_read
then_array d x ts us rest pairs e b = ap (λ (o : Option (JType × Tokens)). o >>= λ x. array_by d x.0 (brackets x.1)) e ∙ ap (array_by d x) b

no_array : (d : ℕ) (x : JType-F JType) → ((x : JType) → TypeStands d x → Again d x) → type_stands_by (TypeStands d) x → is_array_by x ≡ false → Again (suc d) (roll-JType x)
no_array d x r s h rest q =
    then_array d (roll-JType x) (type_tokens (roll-JType x) ++ rest) rest rest [] (base_layer_again d x r s h rest (q.0, q.1)) (no_brackets rest q.2)

pairs_end : (pairs : List JBrackets) (rest : Tokens) → 1 ≤ length pairs → EndsBase (brackets_tokens pairs ++ rest)
pairs_end [] rest h = absurd (omega arith)
pairs_end (p ∷ ps) rest h = (refl, refl)

array_is : (d : ℕ) (x : JType) (pairs : List JBrackets) (rest : Tokens) → 1 ≤ length pairs → type_depth x ≤ d → array_by d x (pairs, rest) ≡ Some (ty.Array x pairs, rest)
array_is d x [] rest h fits = absurd (omega arith)
array_is d x (p ∷ ps) rest h fits = rw (true_le (type_depth x) d fits) refl

layer_again : (d : ℕ) (x : JType-F JType) → ((x : JType) → TypeStands d x → Again d x) → type_stands_by (TypeStands d) x → Again (suc d) (roll-JType x)
layer_again d (JType-F.Primitive p at) r s rest q = no_array d (JType-F.Primitive p at) r s refl rest q
layer_again d (JType-F.Class x) r s rest q = no_array d (JType-F.Class x) r s refl rest q
layer_again d (JType-F.Applied x lp args commas is_joined close) r s rest q = no_array d (JType-F.Applied x lp args commas is_joined close) r s refl rest q
layer_again d (JType-F.Array element pairs) r s rest q =
    let fits : type_depth element ≤ d = type_within d element s.2 in
    subst (λ (z : JType). type_read (suc d) (type_tokens z ++ rest) ≡ Some (z, rest)) (sym (ty.rolls-Array element pairs))
    (rw (tokens_Array element pairs, append_assoc (type_tokens element) (brackets_tokens pairs) rest)
    (then_array d element (type_tokens element ++ (brackets_tokens pairs ++ rest)) (brackets_tokens pairs ++ rest) rest pairs
    (base_step_again d element r (type_resize d (suc d) element s.2 (omega arith)) s.1 (brackets_tokens pairs ++ rest) (pairs_end pairs rest s.0))
    (brackets_again pairs rest q.2)
    ∙ array_is d element pairs rest s.0 fits))

pub type_again : (d : ℕ) (x : JType) → TypeStands d x → Again d x
unfolding TypeStands
type_again zero x s = absurd s
type_again (suc d) x s = subst (Again (suc d)) (roll-out-JType x) (layer_again d (out-JType x) (type_again d) s)

pub base_again : (d : ℕ) (x : JType) → TypeStands d x → is_array x ≡ false → (rest : Tokens) → EndsBase rest → base_read d (type_tokens x ++ rest) ≡ Some (x, rest)
unfolding base_read TypeStands
base_again zero x s h rest q = absurd s
base_again (suc d) x s h rest q = base_step_again d x (type_again d) s h rest q

-- ---- parameters with types

word_not_final : (types : Reader JType) (p : Primitive) (at : Position) (rest : Tokens)
    → typed_step types (Token.Word (primitive_word p) at ∷ rest) ≡ typed_by types None (Token.Word (primitive_word p) at ∷ rest)
word_not_final types primitive.Byte at rest = refl
word_not_final types primitive.Short at rest = refl
word_not_final types primitive.Char at rest = refl
word_not_final types primitive.Int at rest = refl
word_not_final types primitive.Long at rest = refl
word_not_final types primitive.Boolean at rest = refl

-- No type begins with `final`.
abbrev NotFinal : Reader JType → JType → Type 0
NotFinal types x = (rest : Tokens) → typed_step types (type_tokens x ++ rest) ≡ typed_by types None (type_tokens x ++ rest)

layer_not_final : (types : Reader JType) (d : ℕ) (x : JType-F JType) → ((x : JType) → TypeStands d x → NotFinal types x) → type_stands_by (TypeStands d) x → NotFinal types (roll-JType x)
layer_not_final types d (JType-F.Primitive p at) r s rest =
    subst (λ (z : JType). typed_step types (type_tokens z ++ rest) ≡ typed_by types None (type_tokens z ++ rest)) (sym (ty.rolls-Primitive p at))
    (rw (tokens_Primitive p at) (word_not_final types p at rest))
layer_not_final types d (JType-F.Class x) r s rest =
    subst (λ (z : JType). typed_step types (type_tokens z ++ rest) ≡ typed_by types None (type_tokens z ++ rest)) (sym (ty.rolls-Class x))
    (rw (tokens_Class x) refl)
layer_not_final types d (JType-F.Applied x lp args commas is_joined close) r s rest =
    subst (λ (z : JType). typed_step types (type_tokens z ++ rest) ≡ typed_by types None (type_tokens z ++ rest)) (sym (ty.rolls-Applied x lp args commas is_joined close))
    (rw (tokens_Applied x lp args commas is_joined close) refl)
layer_not_final types d (JType-F.Array element pairs) r s rest =
    subst (λ (z : JType). typed_step types (type_tokens z ++ rest) ≡ typed_by types None (type_tokens z ++ rest)) (sym (ty.rolls-Array element pairs))
    (rw (tokens_Array element pairs, append_assoc (type_tokens element) (brackets_tokens pairs) rest) (r element s.2 (brackets_tokens pairs ++ rest)))

not_final : (types : Reader JType) (d : ℕ) (x : JType) → TypeStands d x → NotFinal types x
unfolding TypeStands
not_final types zero x s = absurd s
not_final types (suc d) x s = subst (NotFinal types) (roll-out-JType x) (layer_not_final types d (out-JType x) (not_final types d) s)

typed_by_again : (d : ℕ) (is_final : Option Position) (x : JType) (n : JParam) (rest : Tokens) → TypeStands d x
    → typed_by (type_read d) is_final (type_tokens x ++ Token.Id n.name n.at ∷ rest) ≡ Some (record { is_final = is_final; kind = x; name = n.name; at = n.at }, rest)
unfolding typed_by
typed_by_again d is_final x n rest s = rw (type_again d x s (Token.Id n.name n.at ∷ rest) (refl, refl, refl)) refl

typed_step_again : (d : ℕ) (is_final : Option Position) (x : JType) (n : JParam) (rest : Tokens) → TypeStands d x
    → typed_step (type_read d) (final_tokens is_final ++ (type_tokens x ++ Token.Id n.name n.at ∷ rest)) ≡ Some (record { is_final = is_final; kind = x; name = n.name; at = n.at }, rest)
typed_step_again d None x n rest s = not_final (type_read d) d x s (Token.Id n.name n.at ∷ rest) ∙ typed_by_again d None x n rest s
typed_step_again d (Some at) x n rest s = typed_by_again d (Some at) x n rest s

pub typed_again : (d : ℕ) (p : JTypedParam) → TypedStands d p → (rest : Tokens) → typed_read d (typed_tokens p ++ rest) ≡ Some (p, rest)
unfolding typed_read TypedStands
typed_again zero p s rest = absurd s
typed_again (suc d) p s rest =
    rw (append_assoc (final_tokens p.is_final) (type_tokens p.kind ++ Token.Id p.name p.at ∷ []) rest, append_assoc (type_tokens p.kind) (Token.Id p.name p.at ∷ []) rest)
    (typed_step_again d p.is_final p.kind (record { name = p.name; at = p.at }) rest s)
