-- The constants of an enum: what is read is spelled so, and what is spelled so is read.
use Rattle.std.proofs.Common.{suc, ◌≡◌, ℕ, Bool, true, false, ◌++◌, List, [], ◌∷◌, map, Option, Some, None, inl, inr, refl, ap, sym, ◌∙◌, subst, append_assoc}
use Rattle.std.specs.List.{AllByRecursion}
use Rattle.java_tree.specs.declared.tokens.Position.{Position}
use Rattle.java_tree.specs.declared.tokens.Mark.TheVariants as m
use Rattle.java_tree.specs.Seen.{Token, Tokens}
use Rattle.java_tree.specs.Trees.{listed, AreBetween, trailing, param_tokens, tokens}
use Rattle.java_expr_grammar.specs.Reading as r
use Rattle.java_expr_grammar.specs.Reading.{Listed, ◌>>=◌}
use Rattle.java_expr_grammar.proofs.LawsToCite.{bind_some, cond_is, some_same, ident_only, sound, args_sound, close_only, again, args_again}
use Rattle.java_expr_grammar.proofs.LawsToCite.Lists as lists
use Rattle.java_member_grammar.specs.declared.lines.JArguments.{JArguments}
use Rattle.java_member_grammar.specs.declared.lines.JConstant.{JConstant}
use Rattle.java_member_grammar.specs.declared.lines.JConstants.{JConstants}
use Rattle.java_member_grammar.specs.Heads.{arguments_tokens, constant_tokens, end_tokens, constants_tokens, arguments_stand, ConstantStands, ConstantsStand}
use Rattle.java_member_grammar.specs.Reading.{arguments_of, arguments, constant, comma_name, begins_id, constants_end, constant_list, constants}

-- ---- what is read is spelled so

-- behind the `(`
of_sound : (d : ℕ) (lp : Position) (ts : Tokens) (x : JArguments × Tokens) → arguments_of d lp ts ≡ Some x
    → (Token.Sign m.OpenRound lp ∷ ts ≡ arguments_tokens (Some x.0) ++ x.1) × arguments_stand d (Some x.0)
unfolding arguments_of
of_sound d lp ts x h =
    let a = bind_some (r.args_from (r.type_read d) (r.base_read (suc d)) (r.typed_read d) (r.read d) ts) _ _ h in
    let c = bind_some (r.close a.0.1) _ _ a.2 in
    let i = args_sound d (sound d) ts a.0 a.1 in
    let items : Tokens = listed a.0.0.1 (map tokens a.0.0.0) in
    let P : JArguments × Tokens → Type 0 = λ x. (Token.Sign m.OpenRound lp ∷ ts ≡ arguments_tokens (Some x.0) ++ x.1) × arguments_stand d (Some x.0) in
    subst P (some_same c.2) (
      ap (λ r. Token.Sign m.OpenRound lp ∷ r) (i.0 ∙ ap (λ r. items ++ r) (close_only a.0.1 c.0 c.1) ∙ sym (append_assoc items (Token.Sign m.CloseRound c.0.0 ∷ []) c.0.1)),
      (i.1, i.2),
    )

arguments_sound : (d : ℕ) (ts : Tokens) (x : Option JArguments × Tokens) → arguments d ts ≡ Some x → (ts ≡ arguments_tokens x.0 ++ x.1) × arguments_stand d x.0
arguments_sound d (Token.Sign m.OpenRound lp ∷ rest) x h =
    let a = bind_some (arguments_of d lp rest) _ _ h in
    let P : Option JArguments × Tokens → Type 0 = λ x. (Token.Sign m.OpenRound lp ∷ rest ≡ arguments_tokens x.0 ++ x.1) × arguments_stand d x.0 in
    subst P (some_same a.2) (of_sound d lp rest a.0 a.1)
arguments_sound d ts x h = let P : Option JArguments × Tokens → Type 0 = λ x. (ts ≡ arguments_tokens x.0 ++ x.1) × arguments_stand d x.0 in subst P (some_same h) (refl, tt)

constant_sound : (d : ℕ) (ts : Tokens) (x : JConstant × Tokens) → constant d ts ≡ Some x → (ts ≡ constant_tokens x.0 ++ x.1) × ConstantStands d x.0
unfolding constant
constant_sound d ts x h =
    let n = bind_some (r.ident ts) _ _ h in
    let a = bind_some (arguments d n.0.1) _ _ n.2 in
    let i = arguments_sound d n.0.1 a.0 a.1 in
    let P : JConstant × Tokens → Type 0 = λ x. (ts ≡ constant_tokens x.0 ++ x.1) × ConstantStands d x.0 in
    subst P (some_same a.2) (ident_only ts n.0 n.1 ∙ ap (λ r. param_tokens n.0.0 ++ r) i.0, i.1)

name_only : (ts : Tokens) (c : Position × Tokens) → comma_name ts ≡ Some c → ts ≡ Token.Sign m.Comma c.0 ∷ c.1
name_only (Token.Sign m.Comma at ∷ Token.Id n p ∷ rest) c h =
    let same : (at, Token.Id n p ∷ rest) ≡ c = some_same h in ap (λ (x : Position × Tokens). Token.Sign m.Comma x.0 ∷ x.1) same
name_only _ c h = absurd (cc h)

list_sound : (d : ℕ) (ts : Tokens) (x : Listed JConstant × Tokens) → constant_list d ts ≡ Some x
    → (ts ≡ listed x.0.1 (map constant_tokens x.0.0) ++ x.1) × AreBetween x.0.1 x.0.0 × AllByRecursion (ConstantStands d) x.0.0
unfolding constant_list
list_sound d ts x h =
    let P : Listed JConstant × Tokens → Type 0 = λ x. (ts ≡ listed x.0.1 (map constant_tokens x.0.0) ++ x.1) × AreBetween x.0.1 x.0.0 × AllByRecursion (ConstantStands d) x.0.0 in
    elim (cond_is (begins_id ts) (r.some_by comma_name (constant d) ts) (Option.Some (([], []), ts)) (Some x) h) [
      | inl a ↦ (let all = lists.by_sound JConstant constant_tokens (ConstantStands d) comma_name (constant d) name_only (constant_sound d) ts x a.1 in (all.same, all.between, all.all))
      | inr a ↦ subst P (some_same a.1) (refl, refl, tt)
    ]

end_sound : (ts : Tokens) (x : Option Position × Option Position) → constants_end ts ≡ Some x → ts ≡ trailing x.0 ++ end_tokens x.1
end_sound [] x h = subst (λ (x : Option Position × Option Position). [] ≡ trailing x.0 ++ end_tokens x.1) (some_same h) refl
end_sound (Token.Sign m.Semicolon end ∷ []) x h =
    subst (λ (x : Option Position × Option Position). Token.Sign m.Semicolon end ∷ [] ≡ trailing x.0 ++ end_tokens x.1) (some_same h) refl
end_sound (Token.Sign m.Comma at ∷ []) x h = subst (λ (x : Option Position × Option Position). Token.Sign m.Comma at ∷ [] ≡ trailing x.0 ++ end_tokens x.1) (some_same h) refl
end_sound (Token.Sign m.Comma at ∷ Token.Sign m.Semicolon end ∷ []) x h =
    subst (λ (x : Option Position × Option Position). Token.Sign m.Comma at ∷ Token.Sign m.Semicolon end ∷ [] ≡ trailing x.0 ++ end_tokens x.1) (some_same h) refl
end_sound _ x h = absurd (cc h)

-- What is read is spelled so, and stands.
pub constants_are_spelled : (d : ℕ) (ts : Tokens) (x : JConstants) → constants d ts ≡ Some x → (constants_tokens x ≡ ts) × ConstantsStand d x
unfolding constants
constants_are_spelled d ts x h =
    let l = bind_some (constant_list d ts) _ _ h in
    let e = bind_some (constants_end l.0.1) _ _ l.2 in
    let i = list_sound d ts l.0 l.1 in
    let P : JConstants → Type 0 = λ x. (constants_tokens x ≡ ts) × ConstantsStand d x in
    subst P (some_same e.2) (sym (i.0 ∙ ap (λ r. listed l.0.0.1 (map constant_tokens l.0.0.0) ++ r) (end_sound l.0.1 e.0 e.1)), (i.1, i.2))

-- ---- what is spelled so is read

abbrev begins_round : Tokens → Bool
begins_round (Token.Sign m.OpenRound at ∷ rest) = true
begins_round _ = false

no_arguments : (d : ℕ) (ts : Tokens) → begins_round ts ≡ false → arguments d ts ≡ Some (None, ts)
no_arguments d (Token.Sign m.OpenRound lp ∷ rest) h = absurd (cc h)
no_arguments d _ h = refl

of_again : (d : ℕ) (x : JArguments) → arguments_stand d (Some x) → (rest : Tokens) → arguments_of d x.opens (listed x.commas (map tokens x.items) ++ Token.Sign m.CloseRound x.closes ∷ rest) ≡ Some (x, rest)
unfolding arguments_of
of_again d x s rest = rw (args_again d (again d) x.items x.commas x.closes None rest s.0 s.1) refl

arguments_again : (d : ℕ) (x : Option JArguments) → arguments_stand d x → (rest : Tokens) → begins_round rest ≡ false → arguments d (arguments_tokens x ++ rest) ≡ Some (x, rest)
arguments_again d None s rest q = no_arguments d rest q
arguments_again d (Some x) s rest q = rw (append_assoc (listed x.commas (map tokens x.items)) (Token.Sign m.CloseRound x.closes ∷ []) rest, of_again d x s rest) refl

constant_again : (d : ℕ) (x : JConstant) → ConstantStands d x → (rest : Tokens) → begins_round rest ≡ false → constant d (constant_tokens x ++ rest) ≡ Some (x, rest)
unfolding constant
constant_again d x s rest q = rw (arguments_again d x.arguments s rest q) refl

-- what follows the constants
abbrev ends : Option Position → Option Position → Tokens
ends more end = trailing more ++ end_tokens end

ends_no_round : (more end : Option Position) → begins_round (ends more end) ≡ false
ends_no_round None None = refl
ends_no_round None (Some at) = refl
ends_no_round (Some p) end = refl

ends_no_name : (more end : Option Position) → comma_name (ends more end) ≡ None
ends_no_name None None = refl
ends_no_name None (Some at) = refl
ends_no_name (Some p) None = refl
ends_no_name (Some p) (Some at) = refl

ends_no_id : (more end : Option Position) → begins_id (ends more end) ≡ false
ends_no_id None None = refl
ends_no_id None (Some at) = refl
ends_no_id (Some p) end = refl

end_again : (more end : Option Position) → constants_end (ends more end) ≡ Some (more, end)
end_again None None = refl
end_again None (Some at) = refl
end_again (Some p) None = refl
end_again (Some p) (Some at) = refl

list_again : (d : ℕ) (xs : List JConstant) (commas : List Position) (more end : Option Position) → AreBetween commas xs → AllByRecursion (ConstantStands d) xs
    → constant_list d (listed commas (map constant_tokens xs) ++ ends more end) ≡ Some ((xs, commas), ends more end)
unfolding constant_list
list_again d [] commas more end b all = rw (b, ends_no_id more end) refl
list_again d (x ∷ xs) commas more end b all =
    lists.by_again JConstant constant_tokens (ConstantStands d) (λ rest. begins_round rest ≡ false) (λ at rest. refl) comma_name (constant d) (λ x s at rest. refl) (constant_again d)
    x xs commas (ends more end) b all (ends_no_round more end) (ends_no_name more end)

all_again : (d : ℕ) (x : JConstants) → ConstantsStand d x → constants d (constants_tokens x) ≡ Some x
unfolding constants
all_again d x s = rw (list_again d x.items x.commas x.more x.end s.0 s.1, end_again x.more x.end) refl

-- What is spelled so is read.
pub constants_are_read : (d : ℕ) (ts : Tokens) (x : JConstants) → ConstantsStand d x → constants_tokens x ≡ ts → constants d ts ≡ Some x
constants_are_read d ts x s same = subst (λ ts. constants d ts ≡ Some x) same (all_again d x s)
