-- What the three analyses say of runs.
use Rattle.std.proofs.Common.{arith, ◌≡◌, ◌≤◌, ◌+◌, ℕ, Bool, true, false, not, ◌&&◌, ◌||◌, [], refl, sym, ◌∙◌}
use Rattle.flow.specs.Acts.{Act}
use Rattle.flow.specs.Analyses.{Use, Reads, Assigns, Reaches, flow, assignment, unassignment, assigned_behind, reads_unassigned, unassigned_behind, assigns, assigns_again, control, at_place, reachable}
use Rattle.flow.specs.Standing.{one_if}
use Rattle.flow.specs.Runs.{Events, Nothing, Did, Made, End, Normal, Runs, FindsAssigned, times, NoneLater, ReachesNone}
use Rattle.flow.proofs.States.{Below, and_right, or_right, behinds, IsSound, Finds, TellsApart, at_end}
use Rattle.flow.proofs.Sound.{sound}

or_below : (x a b : Bool) → Below a b → Below (x || a) (x || b)
or_below true a b h k = refl
or_below false a b h k = h k

joined_or : (p q b c : Bool) → Below p b → Below b c → Below q c → Below (p || q) c
joined_or true q b c h k m n = k (h refl)
joined_or false q b c h k m n = m n

read_finds : (i a b : Bool) → (i && not a) ≡ false → Below a b → i ≡ true → b ≡ true
read_finds true true b q h e = h refl
read_finds true false b q h e = cc
read_finds false a b q h e = cc

and_below : (x a b : Bool) → Below a b → Below (x && a) (x && b)
and_below true a b h k = h k
and_below false a b h k = k

other_stays : (i b : Bool) → i ≡ false → Below b (not i && b)
other_stays false b q h = h
other_stays true b q h = cc

-- at most once where it was unassigned, and else not at all
left_over : (i b : Bool) (n : ℕ) → (i ≡ true → b ≡ true) → n ≤ one_if (not i && b) → one_if i + n ≤ one_if b
left_over true true n h m = omega arith
left_over true false n h m = absurd (no_way (h refl))
  where
    no_way : false ≡ true → ⊥
    no_way e = cc
left_over false b n h m = omega arith

none : (n : ℕ) → n ≤ 0 → n ≡ 0
none n h = omega arith

not_here : (i : Bool) → (i ≡ true → false ≡ true) → i ≡ false
not_here true h = sym (h refl)
not_here false h = refl

module _ {V P : Type 0} where
  -- ---- A

  module _ (is : V → Bool) where
    assigned_grows : (e : Use V P) (a b : Bool) → Below a b → Below (assigned_behind is e a) (assigned_behind is e b)
    assigned_grows (Reads v p) a b h = h
    assigned_grows (Assigns v p) a b h = or_below (is v) a b h
    assigned_grows (Reaches p) a b h = h

    assigned_stays : (e : Use V P) (b : Bool) → Below b (assigned_behind is e b)
    assigned_stays (Reads v p) b h = h
    assigned_stays (Assigns v p) b h = or_right (is v) b h
    assigned_stays (Reaches p) b h = h

    stays_assigned : (es : Events (Use V P)) (b : Bool) → Below b (behinds (assignment is) b es)
    stays_assigned Nothing b h = h
    stays_assigned (Did e es) b h = stays_assigned es (assigned_behind is e b) (assigned_stays e b h)
    stays_assigned (Made gs es) b h = stays_assigned es b h

    pub assignment_sound : IsSound (assignment {P = P} is)
    assignment_sound = record { grows = assigned_grows; stays = λ e b q. assigned_stays e b; joins = λ p q b es h m. joined_or p q b _ h (stays_assigned es b) m; delays = λ a b h. h }

    FindsIt : Use V P → Bool → Type 0
    FindsIt (Reads v p) b = is v ≡ true → b ≡ true
    FindsIt (Assigns v p) b = Unit {0}
    FindsIt (Reaches p) b = Unit {0}

    finds_it : (e : Use V P) (a b : Bool) → reads_unassigned is e a ≡ false → Below a b → FindsIt e b
    unfolding FindsIt
    finds_it (Reads v p) a b q h = read_finds (is v) a b q h
    finds_it (Assigns v p) a b q h = tt
    finds_it (Reaches p) a b q h = tt

    found : (b : Bool) (es : Events (Use V P)) → Finds (assignment is) FindsIt b es → FindsAssigned is b es
    unfolding FindsIt
    found b Nothing h = tt
    found b (Did (Reads v p) es) h = (h.0, found b es h.1)
    found b (Did (Assigns v p) es) h = found (is v || b) es h.1
    found b (Did (Reaches p) es) h = found b es h.1
    found b (Made gs es) h = (found b gs h.0, found b es h.1)

    pub reads_are_assigned : {T : Type 0} (same : T → T → Bool) → TellsApart same → (x : Act (Use V P) T) (es : Events (Use V P)) (e : End T) → Runs x es e →
        (a : Bool) → (flow same (assignment is) x a).faults ≡ [] → FindsAssigned is a es
    reads_are_assigned same S x es e p a n = found a es ((sound same S (assignment is) assignment_sound FindsIt finds_it p a a (λ h. h)).1 n)

  -- ---- U

  module _ (is : V → Bool) where
    unassigned_grows : (e : Use V P) (a b : Bool) → Below a b → Below (unassigned_behind is e a) (unassigned_behind is e b)
    unassigned_grows (Reads v p) a b h = h
    unassigned_grows (Assigns v p) a b h = and_below (not (is v)) a b h
    unassigned_grows (Reaches p) a b h = h

    unassigned_stays : (e : Use V P) (b : Bool) → assigns is e ≡ false → Below b (unassigned_behind is e b)
    unassigned_stays (Reads v p) b q h = h
    unassigned_stays (Assigns v p) b q h = other_stays (is v) b q h
    unassigned_stays (Reaches p) b q h = h

    pub unassignment_sound : IsSound (unassignment {P = P} is)
    unassignment_sound = record { grows = unassigned_grows; stays = unassigned_stays; joins = λ p q b es h m n. m (and_right p q n); delays = λ a b h n. n }

    IsFirst : Use V P → Bool → Type 0
    IsFirst e b = assigns is e ≡ true → b ≡ true

    is_first : (e : Use V P) (a b : Bool) → assigns_again is e a ≡ false → Below a b → IsFirst e b
    unfolding IsFirst
    is_first e a b q h = read_finds (assigns is e) a b q h

    once : (b : Bool) (es : Events (Use V P)) → Finds (unassignment is) IsFirst b es → times is es ≤ one_if b
    unfolding IsFirst
    once b Nothing h = least b
      where
        least : (b : Bool) → 0 ≤ one_if b
        least true = omega arith
        least false = omega arith
    once b (Did (Reads v p) es) h = once b es h.1
    once b (Did (Assigns v p) es) h = left_over (is v) b (times is es) h.0 (once (not (is v) && b) es h.1)
    once b (Did (Reaches p) es) h = once b es h.1
    once b (Made gs es) h = once b es h.1

    none_later : (b : Bool) (es : Events (Use V P)) → Finds (unassignment is) IsFirst b es → NoneLater is es
    none_later b Nothing h = tt
    none_later b (Did e es) h = none_later (unassigned_behind is e b) es h.1
    none_later b (Made gs es) h = ((none (times is gs) (once false gs h.0), none_later false gs h.0), none_later b es h.1)

    module _ {T : Type 0} (same : T → T → Bool) (S : TellsApart same) (x : Act (Use V P) T) (es : Events (Use V P)) (e : End T) (p : Runs x es e) (n : (flow same (unassignment is) x true).faults ≡ []) where
      first_found : Finds (unassignment is) IsFirst true es
      first_found = (sound same S (unassignment is) unassignment_sound IsFirst is_first p true true (λ h. h)).1 n

      pub assigned_once : times is es ≤ 1
      assigned_once = once true es first_found

      pub assigned_no_later : NoneLater is es
      assigned_no_later = none_later true es first_found

    -- where it isn't unassigned before the text, no run assigns it
    pub never_assigned : {T : Type 0} (same : T → T → Bool) → TellsApart same → (x : Act (Use V P) T) (es : Events (Use V P)) (e : End T) → Runs x es e →
        (flow same (unassignment is) x false).faults ≡ [] → times is es ≡ 0
    never_assigned same S x es e p n = none _ (once false es ((sound same S (unassignment is) unassignment_sound IsFirst is_first p false false (λ h. h)).1 n))

  -- ---- where control comes

  stays_there : (told : P → Bool → Bool) (es : Events (Use V P)) (b : Bool) → behinds (control {V = V} told) b es ≡ b
  stays_there told Nothing b = refl
  stays_there told (Did e es) b = stays_there told es b
  stays_there told (Made gs es) b = stays_there told es b

  control_sound : (told : P → Bool → Bool) → IsSound (control {V = V} told)
  control_sound told = record { grows = λ e a b h. h; stays = λ e b q h. h; joins = λ p q b es h m. joined_or p q b _ h (λ n. stays_there told es b ∙ n) m; delays = λ a b h. h }

  module _ (here : P → Bool) where
    IsElsewhere : Use V P → Bool → Type 0
    IsElsewhere (Reads v p) b = Unit {0}
    IsElsewhere (Assigns v p) b = Unit {0}
    IsElsewhere (Reaches p) b = here p ≡ true → b ≡ true

    is_elsewhere : (e : Use V P) (a b : Bool) → at_place (λ p a. here p && not a) e a ≡ false → Below a b → IsElsewhere e b
    unfolding IsElsewhere
    is_elsewhere (Reads v p) a b q h = tt
    is_elsewhere (Assigns v p) a b q h = tt
    is_elsewhere (Reaches p) a b q h = read_finds (here p) a b q h

    reached : (es : Events (Use V P)) → Finds (reachable here) IsElsewhere false es → ReachesNone here es
    unfolding IsElsewhere
    reached Nothing h = tt
    reached (Did (Reads v p) es) h = reached es h.1
    reached (Did (Assigns v p) es) h = reached es h.1
    reached (Did (Reaches p) es) h = (not_here (here p) h.0, reached es h.1)
    reached (Made gs es) h = (reached gs h.0, reached es h.1)

    pub unreachable_is_not_reached : {T : Type 0} (same : T → T → Bool) → TellsApart same → (x : Act (Use V P) T) (es : Events (Use V P)) (e : End T) → Runs x es e →
        (flow same (reachable here) x false).faults ≡ [] → ReachesNone here es
    unreachable_is_not_reached same S x es e p n = reached es ((sound same S (reachable here) (control_sound (λ p a. here p && not a)) IsElsewhere is_elsewhere p false false (λ h. h)).1 n)

  pub ends_where_it_can : {T : Type 0} (same : T → T → Bool) → TellsApart same → (told : P → Bool → Bool) (x : Act (Use V P) T) (es : Events (Use V P)) →
      (flow same (control told) x false).end ≡ true → Runs x es Normal → ⊥
  ends_where_it_can same S told x es n p = never (sym (stays_there told es false) ∙ at_end (sound same S (control told) (control_sound told) (λ e b. Unit {0}) (λ e a b q h. tt) p false false (λ h. h)).0 n)
    where
      never : false ≡ true → ⊥
      never e = cc
