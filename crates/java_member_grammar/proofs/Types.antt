-- Heads of types: what is read is spelled so, and what is spelled so is read.
use Rattle.std.proofs.Common.{◌≡◌, ℕ, false, ◌++◌, List, [], ◌∷◌, Option, Some, None, refl, ap, sym, ◌∙◌, subst, append_assoc}
use Rattle.std.proofs.lemmas.List.{append-nil}
use Rattle.java_tree.specs.declared.tokens.Position.{Position}
use Rattle.java_tree.specs.declared.tokens.Keyword.TheVariants as w
use Rattle.java_tree.specs.Seen.{Token, Tokens}
use Rattle.java_tree.specs.declared.exprs.JParam.{JParam}
use Rattle.java_tree.specs.Trees.{param_tokens}
use Rattle.java_expr_grammar.specs.Reading as r
use Rattle.java_expr_grammar.specs.Reading.{Read, ◌>>=◌, whole}
use Rattle.java_expr_grammar.proofs.LawsToCite.{bind_some, some_same, ident_only, begins_less}
use Rattle.java_statement_grammar.proofs.LawsToCite.{whole_only, three}
use Rattle.java_member_grammar.specs.declared.modifiers.JModifier.{JModifier}
use Rattle.java_member_grammar.specs.declared.parts.JBound.{JBound}
use Rattle.java_member_grammar.specs.declared.parts.JTypeParams.{JTypeParams}
use Rattle.java_member_grammar.specs.declared.parts.JTypeList.{JTypeList}
use Rattle.java_member_grammar.specs.declared.heads.JTypeHead.{JTypeHead}
use Rattle.java_member_grammar.specs.declared.heads.JTypeHead.TheVariants as kind
use Rattle.java_member_grammar.specs.Heads.{modifiers_tokens, bound_tokens, type_params_tokens, list_tokens, type_head_tokens, bound_stands, type_params_stand, list_stands, TypeHeadStands}
use Rattle.java_member_grammar.specs.Reading.{modifiers, bound, type_params, implements, extends_list, class_head, interface_head, enum_head, type_of, type_head}
use Rattle.java_member_grammar.proofs.Modified.{modifiers_text, modifiers_again, begins_modifier}
use Rattle.java_member_grammar.proofs.Clauses.{bound_sound, bound_again, type_params_sound, type_params_again, implements_sound, implements_again, extends_sound, extends_again, EndsBound}

-- ---- what is read is spelled so

-- It is spelled by what was read, and stands.
abbrev Heads : ℕ → Tokens → JTypeHead × Tokens → Type 0
Heads d ts x = (ts ≡ type_head_tokens x.0 ++ x.1) × TypeHeadStands d x.0

class_sound : (d : ℕ) (mods : List JModifier) (at : Position) (n : JParam) (ts : Tokens) (x : JTypeHead × Tokens) → class_head d mods at n ts ≡ Some x
    → Heads d (modifiers_tokens mods ++ Token.Word w.Class at ∷ (param_tokens n ++ ts)) x
unfolding class_head
class_sound d mods at n ts x h =
    let p = bind_some (type_params d ts) _ _ h in
    let b = bind_some (bound d p.0.1) _ _ p.2 in
    let f = bind_some (implements d b.0.1) _ _ b.2 in
    let i = type_params_sound d ts p.0 p.1 in
    let k = bound_sound d p.0.1 b.0 b.1 in
    let l = implements_sound d b.0.1 f.0 f.1 in
    let begin : Tokens = Token.Word w.Class at ∷ Token.Id n.name n.at ∷ type_params_tokens p.0.0 in
    let text : ts ≡ type_params_tokens p.0.0 ++ (bound_tokens b.0.0 ++ (list_tokens w.Implements f.0.0 ++ f.0.1)) =
    i.0 ∙ ap (λ r. type_params_tokens p.0.0 ++ r) (k.0 ∙ ap (λ r. bound_tokens b.0.0 ++ r) l.0) in
    subst (Heads d (modifiers_tokens mods ++ Token.Word w.Class at ∷ (param_tokens n ++ ts))) (some_same f.2) (
      ap (λ r. modifiers_tokens mods ++ Token.Word w.Class at ∷ (param_tokens n ++ r)) text
          ∙ sym (append_assoc (modifiers_tokens mods) (begin ++ (bound_tokens b.0.0 ++ list_tokens w.Implements f.0.0)) f.0.1
          ∙ ap (λ r. modifiers_tokens mods ++ r) (three begin (bound_tokens b.0.0) (list_tokens w.Implements f.0.0) f.0.1)),
      (i.1, k.1, l.1),
    )

interface_sound : (d : ℕ) (mods : List JModifier) (at : Position) (n : JParam) (ts : Tokens) (x : JTypeHead × Tokens) → interface_head d mods at n ts ≡ Some x
    → Heads d (modifiers_tokens mods ++ Token.Word w.Interface at ∷ (param_tokens n ++ ts)) x
unfolding interface_head
interface_sound d mods at n ts x h =
    let p = bind_some (type_params d ts) _ _ h in
    let f = bind_some (extends_list d p.0.1) _ _ p.2 in
    let i = type_params_sound d ts p.0 p.1 in
    let l = extends_sound d p.0.1 f.0 f.1 in
    subst (Heads d (modifiers_tokens mods ++ Token.Word w.Interface at ∷ (param_tokens n ++ ts))) (some_same f.2) (
      ap (λ r. modifiers_tokens mods ++ Token.Word w.Interface at ∷ (param_tokens n ++ r)) (i.0 ∙ ap (λ r. type_params_tokens p.0.0 ++ r) l.0)
          ∙ sym (three (modifiers_tokens mods) (Token.Word w.Interface at ∷ Token.Id n.name n.at ∷ type_params_tokens p.0.0) (list_tokens w.Extends f.0.0) f.0.1),
      (i.1, l.1),
    )

enum_sound : (d : ℕ) (mods : List JModifier) (at : Position) (n : JParam) (ts : Tokens) (x : JTypeHead × Tokens) → enum_head d mods at n ts ≡ Some x
    → Heads d (modifiers_tokens mods ++ Token.Word w.Enum at ∷ (param_tokens n ++ ts)) x
unfolding enum_head
enum_sound d mods at n ts x h =
    let f = bind_some (implements d ts) _ _ h in
    let l = implements_sound d ts f.0 f.1 in
    subst (Heads d (modifiers_tokens mods ++ Token.Word w.Enum at ∷ (param_tokens n ++ ts))) (some_same f.2) (
      ap (λ r. modifiers_tokens mods ++ Token.Word w.Enum at ∷ (param_tokens n ++ r)) l.0
          ∙ sym (append_assoc (modifiers_tokens mods) (Token.Word w.Enum at ∷ Token.Id n.name n.at ∷ list_tokens w.Implements f.0.0) f.0.1),
      l.1,
    )

-- behind the modifiers
of_sound : (d : ℕ) (mods : List JModifier) (ts : Tokens) (x : JTypeHead × Tokens) → type_of d mods ts ≡ Some x → Heads d (modifiers_tokens mods ++ ts) x
of_sound d mods (Token.Word w.Class at ∷ rest) x h =
    let n = bind_some (r.ident rest) _ _ h in
    subst (λ us. Heads d (modifiers_tokens mods ++ Token.Word w.Class at ∷ us) x) (sym (ident_only rest n.0 n.1)) (class_sound d mods at n.0.0 n.0.1 x n.2)
of_sound d mods (Token.Word w.Interface at ∷ rest) x h =
    let n = bind_some (r.ident rest) _ _ h in
    subst (λ us. Heads d (modifiers_tokens mods ++ Token.Word w.Interface at ∷ us) x) (sym (ident_only rest n.0 n.1)) (interface_sound d mods at n.0.0 n.0.1 x n.2)
of_sound d mods (Token.Word w.Enum at ∷ rest) x h =
    let n = bind_some (r.ident rest) _ _ h in
    subst (λ us. Heads d (modifiers_tokens mods ++ Token.Word w.Enum at ∷ us) x) (sym (ident_only rest n.0 n.1)) (enum_sound d mods at n.0.0 n.0.1 x n.2)
of_sound d mods _ x h = absurd (cc h)

-- What is read is spelled so, and stands.
pub type_is_spelled : (d : ℕ) (ts : Tokens) (x : JTypeHead) → type_head d ts ≡ Some x → (type_head_tokens x ≡ ts) × TypeHeadStands d x
unfolding type_head
type_is_spelled d ts x h =
    let i = of_sound d (modifiers ts).0 (modifiers ts).1 (x, []) (whole_only (type_of d (modifiers ts).0 (modifiers ts).1) x h) in
    (sym (modifiers_text ts ∙ i.0 ∙ append-nil (type_head_tokens x)), i.1)

-- ---- what is spelled so is read

list_ends : (x : Option JTypeList) → EndsBound (list_tokens w.Implements x)
list_ends None = ((refl, refl, refl), refl)
list_ends (Some x) = ((refl, refl, refl), refl)

extends_no_less : (x : Option JTypeList) → begins_less (list_tokens w.Extends x) ≡ false
extends_no_less None = refl
extends_no_less (Some x) = refl

bound_no_less : (x : Option JBound) (faces : Option JTypeList) → begins_less (bound_tokens x ++ list_tokens w.Implements faces) ≡ false
bound_no_less (Some x) faces = refl
bound_no_less None None = refl
bound_no_less None (Some x) = refl

class_again : (d : ℕ) (mods : List JModifier) (at : Position) (n : JParam) (params : Option JTypeParams) (above : Option JBound) (faces : Option JTypeList)
    → type_params_stand d params → bound_stands d above → list_stands d faces
    → class_head d mods at n (type_params_tokens params ++ (bound_tokens above ++ list_tokens w.Implements faces)) ≡ Some (kind.Class mods at n.name n.at params above faces, [])
unfolding class_head
class_again d mods at n params above faces p b f =
    rw (
      type_params_again d params p (bound_tokens above ++ list_tokens w.Implements faces) (bound_no_less above faces),
      bound_again d above b (list_tokens w.Implements faces) (list_ends faces),
      implements_again d faces f,
    ) refl

interface_again : (d : ℕ) (mods : List JModifier) (at : Position) (n : JParam) (params : Option JTypeParams) (above : Option JTypeList) → type_params_stand d params → list_stands d above
    → interface_head d mods at n (type_params_tokens params ++ list_tokens w.Extends above) ≡ Some (kind.Interface mods at n.name n.at params above, [])
unfolding interface_head
interface_again d mods at n params above p a = rw (type_params_again d params p (list_tokens w.Extends above) (extends_no_less above), extends_again d above a) refl

enum_again : (d : ℕ) (mods : List JModifier) (at : Position) (n : JParam) (faces : Option JTypeList) → list_stands d faces
    → enum_head d mods at n (list_tokens w.Implements faces) ≡ Some (kind.Enum mods at n.name n.at faces, [])
unfolding enum_head
enum_again d mods at n faces f = rw (implements_again d faces f) refl

from_modifiers : (d : ℕ) (mods : List JModifier) (ts : Tokens) (x : JTypeHead) → begins_modifier ts ≡ false → type_of d mods ts ≡ Some (x, []) → type_head d (modifiers_tokens mods ++ ts) ≡ Some x
unfolding type_head
from_modifiers d mods ts x h is =
    ap (λ (y : List JModifier × Tokens). whole (type_of d y.0 y.1)) (modifiers_again mods ts h) ∙ ap (λ (o : Read JTypeHead). whole o) is

head_again : (d : ℕ) (x : JTypeHead) → TypeHeadStands d x → type_head d (type_head_tokens x) ≡ Some x
head_again d (kind.Class mods at n nat params above faces) s =
    from_modifiers d mods (Token.Word w.Class at ∷ Token.Id n nat ∷ (type_params_tokens params ++ (bound_tokens above ++ list_tokens w.Implements faces))) _ refl
    (class_again d mods at (record { name = n; at = nat }) params above faces s.0 s.1 s.2)
head_again d (kind.Interface mods at n nat params above) s =
    from_modifiers d mods (Token.Word w.Interface at ∷ Token.Id n nat ∷ (type_params_tokens params ++ list_tokens w.Extends above)) _ refl
    (interface_again d mods at (record { name = n; at = nat }) params above s.0 s.1)
head_again d (kind.Enum mods at n nat faces) s =
    from_modifiers d mods (Token.Word w.Enum at ∷ Token.Id n nat ∷ list_tokens w.Implements faces) _ refl (enum_again d mods at (record { name = n; at = nat }) faces s)

-- What is spelled so is read.
pub type_is_read : (d : ℕ) (ts : Tokens) (x : JTypeHead) → TypeHeadStands d x → type_head_tokens x ≡ ts → type_head d ts ≡ Some x
type_is_read d ts x s same = subst (λ ts. type_head d ts ≡ Some x) same (head_again d x s)
