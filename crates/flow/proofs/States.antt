-- The state of a run, and when an analysis speaks truly of it.
use Rattle.std.proofs.Common.{◌≡◌, Bool, true, false, not, ◌&&◌, ◌||◌, List, [], ◌∷◌, ◌++◌, refl, sym, subst, if◌then◌else◌}
use Rattle.flow.specs.Flows.{Flow, Sides}
use Rattle.flow.specs.Analyses.{Analysis}
use Rattle.flow.specs.Runs.{Events, Nothing, Did, Made, append, Exit, Jumped, Threw, End, Normal, By, Outcome, Is, Out}

-- b holds wherever a does
abbrev pub Below : Bool → Bool → Type 0
Below a b = a ≡ true → b ≡ true

pub and_left : (a b : Bool) → (a && b) ≡ true → a ≡ true
and_left true b h = refl
and_left false b h = h

pub and_right : (a b : Bool) → (a && b) ≡ true → b ≡ true
and_right true b h = h
and_right false b h = cc

pub or_left : (a b : Bool) → a ≡ true → (a || b) ≡ true
or_left true b h = refl
or_left false b h = cc

pub or_right : (a b : Bool) → b ≡ true → (a || b) ≡ true
or_right true b h = refl
or_right false b h = h

pub none_left : (a b : Bool) → (a || b) ≡ false → a ≡ false
none_left true b h = h
none_left false b h = refl

pub none_right : (a b : Bool) → (a || b) ≡ false → b ≡ false
none_right true b h = cc
none_right false b h = h

module _ {A : Type 0} where
  pub nil_left : (xs ys : List A) → xs ++ ys ≡ [] → xs ≡ []
  nil_left [] ys h = refl
  nil_left (x ∷ xs) ys h = cc

  pub nil_right : (xs ys : List A) → xs ++ ys ≡ [] → ys ≡ []
  nil_right [] ys h = h
  nil_right (x ∷ xs) ys h = cc

  pub not_told : (b : Bool) (x : A) → (if b then x ∷ [] else []) ≡ [] → b ≡ false
  not_told true x h = cc
  not_told false x h = refl

-- ---- a loop's start

pub kept_at : (a tk : Bool) (f : Bool → Bool) → (a && (not tk || f a)) ≡ true → (not tk || f (a && (not tk || f a))) ≡ true
kept_at false tk f h = cc
kept_at true tk f h = subst (λ z. (not tk || f z) ≡ true) (sym h) h

and_self : (z w : Bool) → (z ≡ true → w ≡ true) → (z && w) ≡ z
and_self true w h = h refl
and_self false w h = refl

pub start_twice : (a tk : Bool) (f : Bool → Bool) → ((a && (not tk || f a)) && (not tk || f (a && (not tk || f a)))) ≡ (a && (not tk || f a))
start_twice a tk f = and_self _ _ (kept_at a tk f)

-- what holds at the start holds when the loop comes back
pub comes_back : (a tk : Bool) (f : Bool → Bool) (b c : Bool) → Below a b → (tk ≡ false → Below b c) → Below (f (a && (not tk || f a))) c → Below (a && (not tk || f a)) c
comes_back a false f b c h quiet back n = quiet refl (h (and_left a _ n))
comes_back a true f b c h quiet back n = back (kept_at a true f n)

-- what isn't taken away by the text before it holds where a catch or a `finally` begins
pub kept_below : (a tk b c : Bool) → Below a b → (tk ≡ false → Below b c) → Below (a && not tk) c
kept_below a false b c h quiet n = quiet refl (h (and_left a _ n))
kept_below a true b c h quiet n = absurd (never a n)
  where
    never : (a : Bool) → (a && false) ≡ true → ⊥
    never true m = cc
    never false m = cc

-- ---- the state of a run

module _ {E : Type 0} (k : Analysis E) where
  abbrev pub behinds : Bool → Events E → Bool
  behinds b Nothing = b
  behinds b (Did e es) = behinds (k.behind e b) es
  behinds b (Made gs es) = behinds b es

  pub behinds_append : (b : Bool) (es fs : Events E) → behinds b (append es fs) ≡ behinds (behinds b es) fs
  behinds_append b Nothing fs = refl
  behinds_append b (Did e es) fs = behinds_append (k.behind e b) es fs
  behinds_append b (Made gs es) fs = behinds_append b es fs

  -- the analysis speaks of such a state
  pub record IsSound : Type 0 where
    pub grows : (e : E) (a b : Bool) → Below a b → Below (k.behind e a) (k.behind e b)
    pub stays : (e : E) (b : Bool) → k.takes e ≡ false → Below b (k.behind e b)
    pub joins : (p q b : Bool) (es : Events E) → Below p b → Below q (behinds b es) → Below (k.joined p q) (behinds b es)
    pub delays : (a b : Bool) → Below a b → Below (k.later a) (k.later b)

  module _ (Ok : E → Bool → Type 0) where
    -- each event finds a state that is allowed
    abbrev pub Finds : Bool → Events E → Type 0
    Finds b Nothing = Unit {0}
    Finds b (Did e es) = Ok e b × Finds (k.behind e b) es
    Finds b (Made gs es) = Finds (k.later b) gs × Finds b es

    pub found_append : (b : Bool) (es fs : Events E) → Finds b es → Finds (behinds b es) fs → Finds b (append es fs)
    found_append b Nothing fs h m = m
    found_append b (Did e es) fs h m = (h.0, found_append (k.behind e b) es fs h.1 m)
    found_append b (Made gs es) fs h m = (h.0, found_append b es fs h.1 m)

-- two targets are told apart
pub record TellsApart {T : Type 0} (same : T → T → Bool) : Type 0 where
  pub self : (t : T) → same t t ≡ true
  pub apart : (s t : T) → (s ≡ t → ⊥) → same s t ≡ false

-- ---- what a flow says of an end

module _ {T : Type 0} where
  pub data Leaves (J at : T → Bool) (b : Bool) : Exit T → Type 0 where
    jumped : (t : T) → J t ≡ true → Below (at t) b → Leaves J at b (Jumped t)
    threw : Leaves J at b Threw

  pub wider : {J K f g : T → Bool} {b : Bool} {j : Exit T} → ((t : T) → Below (J t) (K t)) → ((t : T) → Below (g t) (f t)) → Leaves J f b j → Leaves K g b j
  wider u v (jumped t m h) = jumped t (u t m) (λ n. h (v t n))
  wider u v threw = threw

module _ {E T : Type 0} where
  pub data Ends (J : T → Bool) (f : Flow E T) (b : Bool) : End T → Type 0 where
    ended : Below f.end b → Ends J f b Normal
    left : {j : Exit T} → Leaves J f.at b j → Ends J f b (By j)

  pub at_end : {J : T → Bool} {f : Flow E T} {b : Bool} → Ends J f b Normal → Below f.end b
  at_end (ended h) = h

  pub at_exit : {J : T → Bool} {f : Flow E T} {b : Bool} {j : Exit T} → Ends J f b (By j) → Leaves J f.at b j
  at_exit (left h) = h

  pub ends_wider : {J K : T → Bool} {f g : Flow E T} {b : Bool} {e : End T} → Below g.end f.end → ((t : T) → Below (J t) (K t)) → ((t : T) → Below (g.at t) (f.at t)) → Ends J f b e → Ends K g b e
  ends_wider w u v (ended h) = ended (λ n. h (w n))
  ends_wider w u v (left h) = left (wider u v h)

  pub data TestEnds (J : T → Bool) (s : Sides E T) (b : Bool) : Outcome T → Type 0 where
    is_true : Below s.yes b → TestEnds J s b (Is true)
    is_false : Below s.no b → TestEnds J s b (Is false)
    out : {j : Exit T} → Leaves J s.at b j → TestEnds J s b (Out j)

  pub at_true : {J : T → Bool} {s : Sides E T} {b : Bool} → TestEnds J s b (Is true) → Below s.yes b
  at_true (is_true h) = h

  pub at_false : {J : T → Bool} {s : Sides E T} {b : Bool} → TestEnds J s b (Is false) → Below s.no b
  at_false (is_false h) = h

  pub at_out : {J : T → Bool} {s : Sides E T} {b : Bool} {j : Exit T} → TestEnds J s b (Out j) → Leaves J s.at b j
  at_out (out h) = h

  pub tests_wider : {J K : T → Bool} {f g : Sides E T} {b : Bool} {o : Outcome T} → Below g.yes f.yes → Below g.no f.no → ((t : T) → Below (J t) (K t)) → ((t : T) → Below (g.at t) (f.at t)) → TestEnds J f b o → TestEnds K g b o
  tests_wider y n u v (is_true h) = is_true (λ m. h (y m))
  tests_wider y n u v (is_false h) = is_false (λ m. h (n m))
  tests_wider y n u v (out h) = out (wider u v h)
