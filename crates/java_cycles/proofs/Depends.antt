-- The classes that are found are those on which one depends.
use Rattle.std.proofs.Common.{◌≡◌, ◌⊎◌, inl, inr, ℕ, zero, suc, ◌+◌, ◌<◌, ◌≤◌, true, List, [], ◌∷◌, ◌++◌, length, Some, None, refl, ap, sym, subst, ◌∙◌, arith}
use Rattle.std.specs.Prelude.{slice_get, nat_eq}
use Rattle.std.specs.List.{list_any}
use Rattle.std.proofs.lemmas.Bool.{eq-eqb}
use Rattle.std.proofs.lemmas.Bool.Decides.{eqb_tells}
use Rattle.std.proofs.lemmas.List.{length-append}
use Rattle.std.proofs.lemmas.Option.{slice_get_within, slice_get_past}
use Rattle.java_cycles.specs.declared.edges.Edge.{Edge}
use Rattle.java_cycles.specs.Cycles.{HasEdge, Depends, Straight, Through, ends_of, others, behind, found_from, below, is_cyclic}

abbrev In : ℕ → List ℕ → Type 0
In x [] = ⊥
In x (y ∷ ys) = (x ≡ y) ⊎ In x ys

in_left : (x : ℕ) (xs ys : List ℕ) → In x xs → In x (xs ++ ys)
in_left x [] ys h = absurd h
in_left x (y ∷ xs) ys (inl e) = inl e
in_left x (y ∷ xs) ys (inr h) = inr (in_left x xs ys h)

in_right : (x : ℕ) (xs ys : List ℕ) → In x ys → In x (xs ++ ys)
in_right x [] ys h = h
in_right x (y ∷ xs) ys h = inr (in_right x xs ys h)

in_split : (x : ℕ) (xs ys : List ℕ) → In x (xs ++ ys) → In x xs ⊎ In x ys
in_split x [] ys h = inr h
in_split x (y ∷ xs) ys (inl e) = inl (inl e)
in_split x (y ∷ xs) ys (inr h) = elim (in_split x xs ys h) [ inl a ↦ inl (inr a) | inr b ↦ inr b ]

in_get : (xs : List ℕ) (i x : ℕ) → slice_get xs i ≡ Some x → In x xs
in_get [] i x h = let e : slice_get {X = ℕ} [] i ≡ None = slice_get_past {X = ℕ} [] i (omega arith) in absurd (cc)
in_get (y ∷ xs) zero x h = let e : Some y ≡ Some x = h in inl (cc)
in_get (y ∷ xs) (suc i) x h = inr (in_get xs i x h)

get_in : (xs : List ℕ) (x : ℕ) → In x xs → (i : ℕ) × (slice_get xs i ≡ Some x)
get_in [] x h = absurd h
get_in (y ∷ xs) x (inl e) = (0, ap Some (sym e))
get_in (y ∷ xs) x (inr h) = let r : (i : ℕ) × (slice_get xs i ≡ Some x) = get_in xs x h in (suc r.0, r.1)

get_front : (xs ys : List ℕ) (i : ℕ) → i < length xs → slice_get (xs ++ ys) i ≡ slice_get xs i
get_front [] ys i h = absurd (omega arith)
get_front (x ∷ xs) ys zero h = refl
get_front (x ∷ xs) ys (suc i) h = get_front xs ys i (omega arith)

get_end : (xs : List ℕ) (i : ℕ) → slice_get xs i ≡ None → length xs ≤ i
get_end [] i h = omega arith
get_end (x ∷ xs) zero h = let e : Some x ≡ None = h in absurd (cc)
get_end (x ∷ xs) (suc i) h = let le : length xs ≤ i = get_end xs i h in omega arith

-- ---- edges

ends_more : (a c : ℕ) (e : Edge) (es : List Edge) → In c (ends_of a es) → In c (ends_of a (e ∷ es))
ends_more a c e es h = elim (eqb_tells e.from a) [ inl same ↦ rw same.0 (inr h) | inr differ ↦ rw differ.0 h ]

others_more : (a b c : ℕ) (e : Edge) (es : List Edge) → HasEdge b c (others a es) → HasEdge b c (others a (e ∷ es))
others_more a b c e es h = elim (eqb_tells e.from a) [ inl same ↦ rw same.0 h | inr differ ↦ rw differ.0 (inr h) ]

ends_sound : (b c : ℕ) (es : List Edge) → In c (ends_of b es) → HasEdge b c es
ends_sound b c [] h = absurd h
ends_sound b c (e ∷ es) h =
    elim (eqb_tells e.from b) [
      | inl same ↦ (let g : (c ≡ e.to) ⊎ In c (ends_of b es) = rw same.0 at h in elim g [ inl s ↦ inl (same.1, sym s) | inr r ↦ inr (ends_sound b c es r) ])
      | inr differ ↦ (let g : In c (ends_of b es) = rw differ.0 at h in inr (ends_sound b c es g))
    ]

others_sub : (a b c : ℕ) (es : List Edge) → HasEdge b c (others a es) → HasEdge b c es
others_sub a b c [] h = absurd h
others_sub a b c (e ∷ es) h =
    elim (eqb_tells e.from a) [
      | inl same ↦ (let g : HasEdge b c (others a es) = rw same.0 at h in inr (others_sub a b c es g))
      | inr differ ↦ (let g : ((e.from ≡ b) × (e.to ≡ c)) ⊎ HasEdge b c (others a es) = rw differ.0 at h in
          elim g [ inl p ↦ inl p | inr r ↦ inr (others_sub a b c es r) ])
    ]

others_not : (a c : ℕ) (es : List Edge) → HasEdge a c (others a es) → ⊥
others_not a c [] h = h
others_not a c (e ∷ es) h =
    elim (eqb_tells e.from a) [
      | inl same ↦ (let g : HasEdge a c (others a es) = rw same.0 at h in others_not a c es g)
      | inr differ ↦ (let g : ((e.from ≡ a) × (e.to ≡ c)) ⊎ HasEdge a c (others a es) = rw differ.0 at h in
          elim g [ inl p ↦ differ.1 p.0 | inr r ↦ others_not a c es r ])
    ]

others_keep : (a b c : ℕ) (es : List Edge) → HasEdge b c es → In c (ends_of a es) ⊎ HasEdge b c (others a es)
others_keep a b c [] h = absurd h
others_keep a b c (e ∷ es) (inl p) =
    elim (eqb_tells e.from a) [ inl same ↦ inl (rw same.0 (inl (sym p.1))) | inr differ ↦ inr (rw differ.0 (inl p)) ]
others_keep a b c (e ∷ es) (inr h) =
    elim (others_keep a b c es h) [ inl i ↦ inl (ends_more a c e es i) | inr r ↦ inr (others_more a b c e es r) ]

parts : (a : ℕ) (es : List Edge) → length (ends_of a es) + length (others a es) ≡ length es
parts a [] = refl
parts a (e ∷ es) =
    let before : length (ends_of a es) + length (others a es) ≡ length es = parts a es in
    elim (eqb_tells e.from a) [ inl same ↦ rw same.0 (omega arith) | inr differ ↦ rw differ.0 (omega arith) ]

-- ---- what is found

module _ (edges : List Edge) (a : ℕ) where
  abbrev IsBelow : List ℕ → Type 0
  IsBelow found = (x : ℕ) → In x found → Depends edges a x

  abbrev IsPart : List Edge → Type 0
  IsPart left = (b c : ℕ) → HasEdge b c left → HasEdge b c edges

  sound : (steps done : ℕ) (left : List Edge) (found : List ℕ) → IsPart left → IsBelow found → IsBelow (found_from steps done left found)
  sound zero done left found part low x h = low x h
  sound (suc steps) done left found part low x h =
      (elim (slice_get found done)
      as (λ o. slice_get found done ≡ o → In x (behind found (λ b. found_from steps (done + 1) (others b left) (found ++ ends_of b left)) o) → Depends edges a x) [
        | None ↦ λ e g. low x g
        | Some b ↦ λ e g.
            sound steps (done + 1) (others b left) (found ++ ends_of b left)
            (λ f c p. part f c (others_sub b f c left p))
            (λ y i. elim (in_split y found (ends_of b left) i) [ inl j ↦ low y j | inr j ↦ Through (low b (in_get found done b e)) (part b y (ends_sound b y left j)) ])
            x g
      ]) refl h

  abbrev Covers : List Edge → List ℕ → Type 0
  Covers left found = (b c : ℕ) → HasEdge b c edges → In c found ⊎ HasEdge b c left

  abbrev AreGone : ℕ → List Edge → List ℕ → Type 0
  AreGone done left found = (k b c : ℕ) → k < done → slice_get found k ≡ Some b → HasEdge b c left → ⊥

  abbrev IsClosed : List ℕ → Type 0
  IsClosed found = (b c : ℕ) → (b ≡ a) ⊎ In b found → HasEdge b c edges → In c found

  closed_end : (done : ℕ) (left : List Edge) (found : List ℕ) → Covers left found → AreGone done left found → ((c : ℕ) → HasEdge a c left → ⊥) → length found ≤ done → IsClosed found
  closed_end done left found covers gone start all b c from edge =
      elim (covers b c edge) [
        | inl i ↦ i
        | inr l ↦ elim from [
          | inl e ↦ absurd (start c (subst (λ n. HasEdge n c left) e l))
          | inr i ↦ (let r : (k : ℕ) × (slice_get found k ≡ Some b) = get_in found b i in
              let near : r.0 < length found = slice_get_within found r.0 b r.1 in
              let below_done : r.0 < done = omega arith in
              absurd (gone r.0 b c below_done r.1 l))
        ]
      ]

  closed : (steps done : ℕ) (left : List Edge) (found : List ℕ) → Covers left found → AreGone done left found → ((c : ℕ) → HasEdge a c left → ⊥)
      → length found + length left ≤ steps + done → IsClosed (found_from steps done left found)
  closed zero done left found covers gone start all = closed_end done left found covers gone start (omega arith)
  closed (suc steps) done left found covers gone start all =
      (elim (slice_get found done)
      as (λ o. slice_get found done ≡ o → IsClosed (behind found (λ b. found_from steps (done + 1) (others b left) (found ++ ends_of b left)) o)) [
        | None ↦ λ e. closed_end done left found covers gone start (get_end found done e)
        | Some b ↦ λ e.
            (let near : done < length found = slice_get_within found done b e in
            let sum : length (ends_of b left) + length (others b left) ≡ length left = parts b left in
            let long : length (found ++ ends_of b left) ≡ length found + length (ends_of b left) = length-append found (ends_of b left) in
            let enough : length (found ++ ends_of b left) + length (others b left) ≤ steps + (done + 1) = omega arith in
            closed steps (done + 1) (others b left) (found ++ ends_of b left)
            (λ f c edge. elim (covers f c edge) [
              | inl i ↦ inl (in_left c found (ends_of b left) i)
              | inr l ↦ elim (others_keep b f c left l) [ inl i ↦ inl (in_right c found (ends_of b left) i) | inr r ↦ inr r ]
            ])
            (λ k f c less get l.
            let k_near : k < length found = omega arith in
            let was : slice_get found k ≡ Some f = sym (get_front found (ends_of b left) k k_near) ∙ get in
            elim (eqb_tells k done) [
              | inl same ↦ (let got : Some b ≡ Some f = sym e ∙ ap (slice_get found) (sym same.1) ∙ was in
                  let is : f ≡ b = cc in
                  others_not b c left (subst (λ n. HasEdge n c (others b left)) is l))
              | inr differ ↦ (let low : k < done = omega (arith, differ.1) in gone k f c low was (others_sub b f c left l))
            ])
            (λ c l. start c (others_sub b a c left l))
            enough)
      ]) refl

  below_sound : IsBelow (below edges a)
  below_sound = sound (length edges) 0 (others a edges) (ends_of a edges) (λ b c h. others_sub a b c edges h) (λ x h. Straight (ends_sound a x edges h))

  below_closed : IsClosed (below edges a)
  below_closed =
      let sum : length (ends_of a edges) + length (others a edges) ≡ length edges = parts a edges in
      let enough : length (ends_of a edges) + length (others a edges) ≤ length edges + 0 = omega arith in
      closed (length edges) 0 (others a edges) (ends_of a edges) (λ b c h. others_keep a b c edges h) (λ k b c less get l. absurd (omega arith)) (λ c l. others_not a c edges l) enough

  below_all : (x : ℕ) → Depends edges a x → In x (below edges a)
  below_all x (Straight h) = below_closed a x (inl refl) h
  below_all x (Through {b} d h) = below_closed b x (inr (below_all b d)) h

any_in : (a : ℕ) (xs : List ℕ) → list_any (nat_eq a) xs ≡ true → In a xs
any_in a [] h = absurd (cc)
any_in a (y ∷ xs) h = elim (eqb_tells a y) [ inl same ↦ inl same.1 | inr differ ↦ inr (any_in a xs (rw differ.0 at h)) ]

in_any : (a : ℕ) (xs : List ℕ) → In a xs → list_any (nat_eq a) xs ≡ true
in_any a [] h = absurd h
in_any a (y ∷ xs) (inl e) = rw (eq-eqb a y e) refl
in_any a (y ∷ xs) (inr h) = elim (eqb_tells a y) [ inl same ↦ rw same.0 refl | inr differ ↦ rw differ.0 (in_any a xs h) ]

pub cyclic_sound : (edges : List Edge) (a : ℕ) → is_cyclic edges a ≡ true → Depends edges a a
cyclic_sound edges a h = below_sound edges a a (any_in a (below edges a) h)

pub cyclic_complete : (edges : List Edge) (a : ℕ) → Depends edges a a → is_cyclic edges a ≡ true
cyclic_complete edges a d = in_any a (below edges a) (below_all edges a a d)
