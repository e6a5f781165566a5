-- The members of the numbers of a name are those of the name.
use Rattle.std.proofs.Common.{◌≡◌, ℕ, ◌+◌, Bool, true, false, List, [], ◌∷◌, ◌++◌, length, Some, refl, ap, subst, arith, append_assoc}
use Rattle.std.specs.Prelude.{slice_get, not}
use Rattle.std.specs.List.{filter, list_any}
use Rattle.std.specs.Str.{bytes_eq}
use Rattle.java_tables.specs.Names.{numbers_of}
use Rattle.java_members.specs.declared.classes.Member.{Member}
use Rattle.java_members.specs.Lists.{is_nil}
use Rattle.java_members.specs.Members.{has_name}
use Rattle.java_members.specs.Numbers.{numbered, picked}
use Rattle.java_members.proofs.Levels.{false_true}

-- the member behind some others
get_behind : (before : List Member) (x : Member) (after : List Member) → slice_get (before ++ x ∷ after) (length before) ≡ Some x
get_behind [] x after = refl
get_behind (y ∷ ys) x after = get_behind ys x after

length_more : (xs : List Member) (x : Member) → length (xs ++ x ∷ []) ≡ length xs + 1
length_more [] x = refl
length_more (y ∷ ys) x = let e : length (ys ++ x ∷ []) ≡ length ys + 1 = length_more ys x in omega arith

step : (name : List ℕ) (before : List Member) (x : Member) (after : List Member) (b : Bool) → bytes_eq name x.name ≡ b →
    picked (before ++ x ∷ after) (numbers_of name (numbered (length before + 1) after)) ≡ filter (has_name name) after →
    picked (before ++ x ∷ after) (numbers_of name (numbered (length before) (x ∷ after))) ≡ filter (has_name name) (x ∷ after)
step name before x after true e more = rw (e, get_behind before x after) (ap (λ l. x ∷ l) more)
step name before x after false e more = rw e more

from : (name : List ℕ) (before after : List Member) → picked (before ++ after) (numbers_of name (numbered (length before) after)) ≡ filter (has_name name) after
from name before [] = refl
from name before (x ∷ after) =
    let long : length (before ++ x ∷ []) ≡ length before + 1 = length_more before x in
    let same : (before ++ x ∷ []) ++ after ≡ before ++ x ∷ after = append_assoc before (x ∷ []) after in
    let more : picked ((before ++ x ∷ []) ++ after) (numbers_of name (numbered (length (before ++ x ∷ [])) after)) ≡ filter (has_name name) after = from name (before ++ x ∷ []) after in
    step name before x after (bytes_eq name x.name) refl
    (subst (λ l. picked l (numbers_of name (numbered (length before + 1) after)) ≡ filter (has_name name) after) same
    (subst (λ k. picked ((before ++ x ∷ []) ++ after) (numbers_of name (numbered k after)) ≡ filter (has_name name) after) long more))

pub of_name : (name : List ℕ) (members : List Member) → picked members (numbers_of name (numbered 0 members)) ≡ filter (has_name name) members
of_name name members = from name [] members

none_step : (name : List ℕ) (x : Member) (xs : List Member) (k : ℕ) (b : Bool) → bytes_eq name x.name ≡ b →
    not (is_nil (numbers_of name (numbered (k + 1) xs))) ≡ list_any (has_name name) xs →
    not (is_nil (numbers_of name (numbered k (x ∷ xs)))) ≡ list_any (has_name name) (x ∷ xs)
none_step name x xs k true e more = rw e refl
none_step name x xs k false e more = rw e more

pub any_of_name : (name : List ℕ) (xs : List Member) (k : ℕ) → not (is_nil (numbers_of name (numbered k xs))) ≡ list_any (has_name name) xs
any_of_name name [] k = refl
any_of_name name (x ∷ xs) k = none_step name x xs k (bytes_eq name x.name) refl (any_of_name name xs (k + 1))

pub nil_is : {A : Type 0} (xs : List A) → is_nil xs ≡ true → xs ≡ []
nil_is [] h = refl
nil_is (x ∷ xs) h = absurd (false_true h)
