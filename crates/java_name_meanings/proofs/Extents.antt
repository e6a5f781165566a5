-- A local is in scope exactly where its scope says so.
use Rattle.std.proofs.Common.{◌≡◌, ℕ, zero, suc, Bool, true, false, Option, Some, cond, List, [], ◌∷◌, ◌++◌, ◌⊎◌, inl, inr, ◌≤◌, ◌<◌, ◌+◌, refl, ap, sym, subst, ◌∙◌, length, take, arith, append_assoc, append-nil, length-append}
use Rattle.std.specs.Prelude.{is_some}
use Rattle.std.specs.Str.{bytes_eq}
use Rattle.std.proofs.lemmas.List.{length-take-le}
use Rattle.std.proofs.lemmas.Slice.Eq.{bytes_eq-Decides}
use Rattle.java_tree.specs.declared.tokens.Position.{Position}
use Rattle.java_tables.specs.Names.{declared}
use Rattle.java_name_uses.specs.declared.uses.Naming.TheVariants as n
use Rattle.java_name_uses.specs.declared.uses.Use.{Use}
use Rattle.java_name_uses.specs.declared.uses.Use.TheVariants as use_
use Rattle.java_scopes.specs.declared.states.Opened.{Opened}
use Rattle.java_scopes.specs.declared.states.State.{State}
use Rattle.java_scopes.specs.Locals.{AreApart, IsIn}
use Rattle.java_scopes.specs.Scopes.{Setting, Locals, first, has_local, run, step}
use Rattle.java_name_meanings.specs.Extents.{EndsNone, IsInScope, behind_all, behind_use, one_less}
use Rattle.java_name_meanings.specs.Meanings.{AllMeant, IsMeant}
use Rattle.java_name_meanings.proofs.Effects.{Begin, Come, Effect, End, Shape, Stay, declared_shape, effect, ended, shape}

abbrev Local : Type 0
Local = List ℕ × Position

abbrev declaring : Local → Use
declaring l = use_.Name n.Variable l.0 l.1

-- ---- texts

all_append : (depth : ℕ) (xs ys : List Use) → behind_all depth (xs ++ ys) ≡ behind_all (behind_all depth xs) ys
all_append depth [] ys = refl
all_append depth (x ∷ xs) ys = all_append (behind_use depth x) xs ys

ends_more : (outer depth : ℕ) (xs : List Use) (x : Use) → EndsNone outer depth xs → outer ≤ behind_use (behind_all depth xs) x → EndsNone outer depth (xs ++ x ∷ [])
ends_more outer depth [] x h k = (k, record {})
ends_more outer depth (y ∷ ys) x h k = (h.0, ends_more outer (behind_use depth y) ys x h.1 k)

-- ---- the scopes, the innermost first, that were open where a local was declared, by its number

abbrev Splits : ℕ → List Opened → ℕ → Type 0
Splits i [] outer = outer ≡ 0
Splits i (o ∷ os) outer = ((i < o.locals) × Splits i os outer) ⊎ ((o.locals ≤ i) × (outer ≡ suc (length os)))

-- each scope has as many locals as there were before it at most
abbrev Nested : ℕ → List Opened → Type 0
Nested count [] = Unit {0}
Nested count (o ∷ os) = (o.locals ≤ count) × Nested o.locals os

splits_few : (i : ℕ) (os : List Opened) (outer : ℕ) → Splits i os outer → outer ≤ length os
splits_few i [] outer h = omega (arith, h)
splits_few i (o ∷ os) outer (inl h) = let k : outer ≤ length os = splits_few i os outer h.1 in omega (arith, k)
splits_few i (o ∷ os) outer (inr h) = omega (arith, h.1)

splits_all : (i : ℕ) (os : List Opened) → Nested i os → Splits i os (length os)
splits_all i [] h = refl
splits_all i (o ∷ os) h = inr (h.0, refl)

nested_more : (i : ℕ) (os : List Opened) → Nested i os → Nested (suc i) os
nested_more i [] h = h
nested_more i (o ∷ os) h = (omega (arith, h.0), h.1)

-- ---- where each local was declared

-- the local of a number
record Placed (pre : List Use) (os : List Opened) (i : ℕ) (l : Local) : Type 0 where
  outer : ℕ
  before : List Use
  since : List Use
  is_split : pre ≡ before ++ declaring l ∷ since
  is_outer : behind_all 0 before ≡ outer
  is_still : EndsNone outer outer since
  splits : Splits i os outer

abbrev AllPlaced : List Use → List Opened → ℕ → List Local → Type 0
AllPlaced pre os i [] = Unit {0}
AllPlaced pre os i (l ∷ ls) = Placed pre os i l × AllPlaced pre os (suc i) ls

-- of a text and what it leads to
record Good (pre : List Use) (s : Shape) : Type 0 where
  depth : length s.1 ≡ behind_all 0 pre
  nested : Nested (length s.0) s.1
  placed : AllPlaced pre s.1 0 s.0

-- one more use
onward : (pre : List Use) (x : Use) (os ps : List Opened) (i : ℕ) (l : Local) → length os ≡ behind_all 0 pre → length ps ≡ behind_use (length os) x →
    ((outer : ℕ) → Splits i os outer → Splits i ps outer) → Placed pre os i l → Placed (pre ++ x ∷ []) ps i l
onward pre x os ps i l deep deeper moved h =
    let behind : behind_all h.outer h.since ≡ length os =
    ap (λ d. behind_all d h.since) (sym h.is_outer) ∙ sym (all_append 0 h.before (declaring l ∷ h.since)) ∙ ap (behind_all 0) (sym h.is_split) ∙ sym deep in
    let new : Splits i ps h.outer = moved h.outer h.splits in
    let few : h.outer ≤ length ps = splits_few i ps h.outer new in
    let enough : h.outer ≤ behind_use (behind_all h.outer h.since) x = subst (λ d. h.outer ≤ d) (deeper ∙ ap (λ d. behind_use d x) (sym behind)) few in
    record {
      outer = h.outer;
      before = h.before;
      since = h.since ++ x ∷ [];
      is_split = ap (λ zs. zs ++ x ∷ []) h.is_split ∙ append_assoc h.before (declaring l ∷ h.since) (x ∷ []);
      is_outer = h.is_outer;
      is_still = ends_more h.outer h.outer h.since x h.is_still enough;
      splits = new;
    }

onward_all : (pre : List Use) (x : Use) (os ps : List Opened) (i count : ℕ) (ls : List Local) → length os ≡ behind_all 0 pre → length ps ≡ behind_use (length os) x →
    i + length ls ≤ count → ((j outer : ℕ) → j < count → Splits j os outer → Splits j ps outer) → AllPlaced pre os i ls → AllPlaced (pre ++ x ∷ []) ps i ls
onward_all pre x os ps i count [] deep deeper fits moved h = record {}
onward_all pre x os ps i count (l ∷ ls) deep deeper fits moved h = (
  onward pre x os ps i l deep deeper (λ outer. moved i outer (omega (arith, fits))) h.0,
  onward_all pre x os ps (suc i) count ls deep deeper (omega (arith, fits)) moved h.1,
)

all_take : (pre : List Use) (os : List Opened) (i k : ℕ) (ls : List Local) → AllPlaced pre os i ls → AllPlaced pre os i (take k ls)
all_take pre os i zero [] h = h
all_take pre os i zero (l ∷ ls) h = record {}
all_take pre os i (suc k) [] h = h
all_take pre os i (suc k) (l ∷ ls) h = (h.0, all_take pre os (suc i) k ls h.1)

all_more : (pre : List Use) (os : List Opened) (i : ℕ) (ls : List Local) (l : Local) → AllPlaced pre os i ls → Placed pre os (i + length ls) l → AllPlaced pre os i (ls ++ l ∷ [])
all_more pre os i [] l h k = (subst (λ j. Placed pre os j l) (omega arith) k, record {})
all_more pre os i (x ∷ ls) l h k = (h.0, all_more pre os (suc i) ls l h.1 (subst (λ j. Placed pre os j l) (omega arith) k))

-- ---- one use

stays : (pre : List Use) (s : Shape) (x : Use) → ((depth : ℕ) → behind_use depth x ≡ depth) → Good pre s → Good (pre ++ x ∷ []) s
stays pre s x same h =
    record {
      depth = h.depth ∙ sym (same (behind_all 0 pre)) ∙ sym (all_append 0 pre (x ∷ []));
      nested = h.nested;
      placed = onward_all pre x s.1 s.1 0 (length s.0) s.0 h.depth (sym (same (length s.1))) (omega arith) (λ j outer small k. k) h.placed;
    }

begins : (pre : List Use) (s : Shape) (x : Use) (o : Opened) → o.locals ≡ length s.0 → ((depth : ℕ) → behind_use depth x ≡ suc depth) → Good pre s →
    Good (pre ++ x ∷ []) (s.0, o ∷ s.1)
begins pre s x o here more h =
    record {
      depth = ap suc h.depth ∙ sym (more (behind_all 0 pre)) ∙ sym (all_append 0 pre (x ∷ []));
      nested = (omega (arith, here), subst (λ count. Nested count s.1) (sym here) h.nested);
      placed =
          onward_all pre x s.1 (o ∷ s.1) 0 (length s.0) s.0 h.depth (sym (more (length s.1))) (omega arith)
          (λ j outer small k. inl (subst (λ count. j < count) (sym here) small, k)) h.placed;
    }

ended_less : (locals : Locals) (os : List Opened) → length (ended (locals, os)).1 ≡ one_less (length os)
ended_less locals [] = refl
ended_less locals (o ∷ os) = refl

-- of a scope that ends, the locals of it go
kept_by : (j outer : ℕ) (o : Opened) (os : List Opened) → j < o.locals → Splits j (o ∷ os) outer → Splits j os outer
kept_by j outer o os small (inl h) = h.1
kept_by j outer o os small (inr h) = absurd (omega (arith, small, h.0))

ends : (pre : List Use) (locals : Locals) (os : List Opened) (x : Use) → ((depth : ℕ) → behind_use depth x ≡ one_less depth) → Good pre (locals, os) →
    Good (pre ++ x ∷ []) (ended (locals, os))
ends pre locals [] x less h =
    record {
      depth = ap one_less h.depth ∙ sym (less (behind_all 0 pre)) ∙ sym (all_append 0 pre (x ∷ []));
      nested = h.nested;
      placed = onward_all pre x [] [] 0 (length locals) locals h.depth (sym (less 0)) (omega arith) (λ j outer small k. k) h.placed;
    }
ends pre locals (o ∷ os) x less h =
    let long : length (take o.locals locals) ≡ o.locals = length-take-le o.locals locals h.nested.0 in
    record {
      depth = ap one_less h.depth ∙ sym (less (behind_all 0 pre)) ∙ sym (all_append 0 pre (x ∷ []));
      nested = subst (λ count. Nested count os) (sym long) h.nested.1;
      placed =
          onward_all pre x (o ∷ os) os 0 o.locals (take o.locals locals) h.depth (sym (less (suc (length os)))) (omega (arith, long))
          (λ j outer small k. kept_by j outer o os small k) (all_take pre (o ∷ os) 0 o.locals locals h.placed);
    }

comes : (pre : List Use) (s : Shape) (l : Local) → Good pre s → Good (pre ++ declaring l ∷ []) (s.0 ++ l ∷ [], s.1)
comes pre s l h =
    let long : length (s.0 ++ l ∷ []) ≡ suc (length s.0) = length-append s.0 (l ∷ []) ∙ omega arith in
    let same : length s.0 ≡ 0 + length s.0 = omega arith in
    record {
      depth = h.depth ∙ sym (all_append 0 pre (declaring l ∷ []));
      nested = subst (λ count. Nested count s.1) (sym long) (nested_more (length s.0) s.1 h.nested);
      placed =
          all_more (pre ++ declaring l ∷ []) s.1 0 s.0 l
          (onward_all pre (declaring l) s.1 s.1 0 (length s.0) s.0 h.depth refl (omega arith) (λ j outer small k. k) h.placed)
          (record {
            outer = length s.1;
            before = pre;
            since = [];
            is_split = refl;
            is_outer = sym h.depth;
            is_still = record {};
            splits = subst (λ j. Splits j s.1 (length s.1)) same (splits_all (length s.0) s.1 h.nested);
          });
    }

good_by : (pre : List Use) (s : Shape) (x : Use) (t : Shape) → Effect s x t → Good pre s → Good (pre ++ x ∷ []) t
good_by pre s x t (Stay same is) h = subst (Good (pre ++ x ∷ [])) (sym is) (stays pre s x same h)
good_by pre s x t (Begin o here more is) h = subst (Good (pre ++ x ∷ [])) (sym is) (begins pre s x o here more h)
good_by pre s x t (End less is) h = subst (Good (pre ++ x ∷ [])) (sym is) (ends pre s.0 s.1 x less h)
good_by pre s x t (Come name at this is) h =
    subst (Good (pre ++ x ∷ [])) (sym is) (subst (λ y. Good (pre ++ y ∷ []) (s.0 ++ (name, at) ∷ [], s.1)) (sym this) (comes pre s (name, at) h))

good_in : (g : Setting) (pre : List Use) (s : State) (xs : List Use) → Good pre (shape s) → Good (pre ++ xs) (shape (run g s xs))
good_in g pre s [] h = subst (λ zs. Good zs (shape s)) (sym (append-nil pre)) h
good_in g pre s (x ∷ xs) h =
    subst (λ zs. Good zs (shape (run g (step g s x) xs))) (append_assoc pre (x ∷ []) xs)
    (good_in g (pre ++ x ∷ []) (step g s x) xs (good_by pre (shape s) x (shape (step g s x)) (effect g s x) h))

good_first : Good [] (shape first)
good_first = record { depth = refl; nested = record {}; placed = record {} }

good : (g : Setting) (xs : List Use) → Good xs (shape (run g first xs))
good g xs = good_in g [] first xs good_first

-- ---- a local in scope

found_in : (pre : List Use) (os : List Opened) (i : ℕ) (ls : List Local) (l : Local) → AllPlaced pre os i ls → IsIn l ls → IsInScope l.0 l.1 pre
found_in pre os i [] l h inside = absurd inside
found_in pre os i (x ∷ ls) l h (inl same) =
    record {
      before = h.0.before;
      since = h.0.since;
      is_split = h.0.is_split ∙ ap (λ y. h.0.before ++ declaring y ∷ h.0.since) (sym same);
      is_still = subst (λ d. EndsNone d d h.0.since) (sym h.0.is_outer) h.0.is_still;
    }
found_in pre os i (x ∷ ls) l h (inr inside) = found_in pre os (suc i) ls l h.1 inside

pub in_scope : (g : Setting) (xs : List Use) (l : Local) → IsIn l (run g first xs).locals → IsInScope l.0 l.1 xs
in_scope g xs l inside = found_in xs (shape (run g first xs)).1 0 (run g first xs).locals l (good g xs).placed inside

-- ---- the scope of a local, where nothing is at fault

abbrev IsAt : ℕ → Local → List Local → Type 0
IsAt i l [] = ⊥
IsAt zero l (x ∷ xs) = l ≡ x
IsAt (suc i) l (x ∷ xs) = IsAt i l xs

at_take : (i k : ℕ) (l : Local) (ls : List Local) → i < k → IsAt i l ls → IsAt i l (take k ls)
at_take i k l [] small h = absurd h
at_take i zero l (x ∷ xs) small h = absurd (omega (arith, small))
at_take zero (suc k) l (x ∷ xs) small h = h
at_take (suc i) (suc k) l (x ∷ xs) small h = at_take i k l xs (omega (arith, small)) h

at_less : (i : ℕ) (l : Local) (ls : List Local) → IsAt i l ls → i < length ls
at_less i l [] h = absurd h
at_less zero l (x ∷ xs) h = omega arith
at_less (suc i) l (x ∷ xs) h = let k : i < length xs = at_less i l xs h in omega (arith, k)

at_more : (i : ℕ) (l m : Local) (ls : List Local) → IsAt i l ls → IsAt i l (ls ++ m ∷ [])
at_more i l m [] h = absurd h
at_more zero l m (x ∷ xs) h = h
at_more (suc i) l m (x ∷ xs) h = at_more i l m xs h

at_last : (l : Local) (ls : List Local) → IsAt (length ls) l (ls ++ l ∷ [])
at_last l [] = refl
at_last l (x ∷ xs) = at_last l xs

at_in : (i : ℕ) (l : Local) (ls : List Local) → IsAt i l ls → IsIn l ls
at_in i l [] h = absurd h
at_in zero l (x ∷ xs) h = inl h
at_in (suc i) l (x ∷ xs) h = inr (at_in i l xs h)

abbrev Kept : ℕ → Local → ℕ → Shape → Type 0
Kept i l outer s = IsAt i l s.0 × Splits i s.1 outer

deeper_by : (s : Shape) (x : Use) (t : Shape) → Effect s x t → length t.1 ≡ behind_use (length s.1) x
deeper_by s x t (Stay same is) = ap (λ u. length u.1) is ∙ sym (same (length s.1))
deeper_by s x t (Begin o here more is) = ap (λ u. length u.1) is ∙ sym (more (length s.1))
deeper_by s x t (End less is) = ap (λ u. length u.1) is ∙ ended_less s.0 s.1 ∙ sym (less (length s.1))
deeper_by s x t (Come name at this is) = ap (λ u. length u.1) is ∙ ap (behind_use (length s.1)) (sym this)

end_keeps : (i : ℕ) (l : Local) (outer : ℕ) (locals : Locals) (os : List Opened) → outer ≤ one_less (length os) → Kept i l outer (locals, os) → Kept i l outer (ended (locals, os))
end_keeps i l outer locals [] few h = h
end_keeps i l outer locals (o ∷ os) few (there, inl h) = (at_take i o.locals l locals h.0 there, h.1)
end_keeps i l outer locals (o ∷ os) few (there, inr h) = absurd (omega (arith, few, h.1))

kept_behind : (i : ℕ) (l : Local) (outer : ℕ) (s : Shape) (x : Use) (t : Shape) → outer ≤ behind_use (length s.1) x → Effect s x t → Kept i l outer s → Kept i l outer t
kept_behind i l outer s x t few (Stay same is) h = subst (Kept i l outer) (sym is) h
kept_behind i l outer s x t few (Begin o here more is) h =
    subst (Kept i l outer) (sym is) (h.0, inl (subst (λ count. i < count) (sym here) (at_less i l s.0 h.0), h.1))
kept_behind i l outer s x t few (End less is) h =
    subst (Kept i l outer) (sym is) (end_keeps i l outer s.0 s.1 (subst (λ d. outer ≤ d) (less (length s.1)) few) h)
kept_behind i l outer s x t few (Come name at this is) h = subst (Kept i l outer) (sym is) (at_more i l (name, at) s.0 h.0, h.1)

kept_in : (g : Setting) (s : State) (xs : List Use) (i : ℕ) (l : Local) (outer : ℕ) → EndsNone outer (length (shape s).1) xs → Kept i l outer (shape s) →
    IsIn l (run g s xs).locals
kept_in g s [] i l outer h k = at_in i l s.locals k.0
kept_in g s (x ∷ xs) i l outer h k =
    kept_in g (step g s x) xs i l outer
    (subst (λ d. EndsNone outer d xs) (sym (deeper_by (shape s) x (shape (step g s x)) (effect g s x))) h.1)
    (kept_behind i l outer (shape s) x (shape (step g s x)) h.0 (effect g s x) k)

run_append : (g : Setting) (s : State) (xs ys : List Use) → run g s (xs ++ ys) ≡ run g (run g s xs) ys
run_append g s [] ys = refl
run_append g s (x ∷ xs) ys = run_append g (step g s x) xs ys

meant_at : (g : Setting) (s : State) (xs : List Use) (x : Use) (ys : List Use) → AllMeant g s (xs ++ x ∷ ys) → IsMeant g (run g s xs) x
meant_at g s [] x ys h = h.0
meant_at g s (y ∷ xs) x ys h = meant_at g (step g s y) xs x ys h.1

module _ (g : Setting) (before : List Use) (l : Local) (since : List Use) where
  abbrev there : State
  there = run g first before

  in_locals : has_local l.0 there.locals ≡ false → EndsNone (behind_all 0 before) (behind_all 0 before) since →
      IsIn l (run g (step g there (declaring l)) since).locals
  in_locals new still =
      let known : Good before (shape there) = good g before in
      let is : shape (step g there (declaring l)) ≡ (there.locals ++ l ∷ [], (shape there).1) = declared_shape g there l.0 l.1 new in
      let deep : length (shape (step g there (declaring l))).1 ≡ behind_all 0 before = ap (λ u. length u.1) is ∙ known.depth in
      kept_in g (step g there (declaring l)) since (length there.locals) l (behind_all 0 before)
      (subst (λ d. EndsNone (behind_all 0 before) d since) (sym deep) still)
      (subst (Kept (length there.locals) l (behind_all 0 before)) (sym is)
      (at_last l there.locals, subst (λ d. Splits (length there.locals) (shape there).1 d) known.depth (splits_all (length there.locals) (shape there).1 known.nested)))

pub scope_is_found : (g : Setting) (xs : List Use) (name : List ℕ) (at : Position) → AllMeant g first xs → IsInScope name at xs → IsIn (name, at) (run g first xs).locals
scope_is_found g xs name at meant h =
    let new : IsMeant g (run g first h.before) (declaring (name, at)) = meant_at g first h.before (declaring (name, at)) h.since (subst (AllMeant g first) h.is_split meant) in
    subst (λ zs. IsIn (name, at) (run g first zs).locals) (sym h.is_split)
    (subst (λ s. IsIn (name, at) s.locals) (sym (run_append g first h.before (declaring (name, at) ∷ h.since)))
    (in_locals g h.before (name, at) h.since new.0 h.is_still))

-- ---- one local of a name

same_text : (xs : List ℕ) → bytes_eq xs xs ≡ true
same_text xs = (bytes_eq-Decides xs xs).1 refl

found : (b : Bool) (v : Position) (o : Option Position) → b ≡ true → is_some (cond b (Some v) o) ≡ true
found b v o h = ap (λ x. is_some (cond x (Some v) o)) h

found_on : (b : Bool) (v : Position) (o : Option Position) → is_some o ≡ true → is_some (cond b (Some v) o) ≡ true
found_on true v o h = refl
found_on false v o h = h

has_it : (name : List ℕ) (at : Position) (ls : Locals) → IsIn (name, at) ls → has_local name ls ≡ true
has_it name at [] h = absurd h
has_it name at (x ∷ xs) (inl same) =
    subst (λ (y : Local). has_local name (y ∷ xs) ≡ true) same (found (bytes_eq name name) at (declared name xs) (same_text name))
has_it name at (x ∷ xs) (inr h) = found_on (bytes_eq name x.0) x.1 (declared name xs) (has_it name at xs h)

differ : (b : Bool) → b ≡ true → b ≡ false → ⊥
differ b h k = cc

pub one_place : (name : List ℕ) (at other : Position) (ls : Locals) → AreApart ls → IsIn (name, at) ls → IsIn (name, other) ls → at ≡ other
one_place name at other [] apart h k = absurd h
one_place name at other (x ∷ xs) apart (inl h) (inl k) = ap (λ (y : Local). y.1) (h ∙ sym k)
one_place name at other (x ∷ xs) apart (inl h) (inr k) =
    absurd (differ (has_local x.0 xs) (subst (λ (y : Local). has_local y.0 xs ≡ true) h (has_it name other xs k)) apart.0)
one_place name at other (x ∷ xs) apart (inr h) (inl k) =
    absurd (differ (has_local x.0 xs) (subst (λ (y : Local). has_local y.0 xs ≡ true) k (has_it name at xs h)) apart.0)
one_place name at other (x ∷ xs) apart (inr h) (inr k) = one_place name at other xs apart.1 h k
