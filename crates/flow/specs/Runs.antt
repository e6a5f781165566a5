-- The runs of a text: what a run does, in order, and how it ends. Of flows and states they know nothing.
use Rattle.std.specs.Prelude.{◌≡◌, ℕ, ◌+◌, Bool, true, false, ◌||◌}
use Rattle.flow.specs.Acts.{Act, Test, Groups, Skip, Does, Asks, Jumps, Then, If, Forever, Block, Switch, Try, Finally, Later, Constant, Value, And, Or, Not, Choose, Done, Group}
use Rattle.flow.specs.Standing.{one_if}
use Rattle.flow.specs.Analyses.{Use, Reads, Assigns, Reaches}

-- the events of a run, and those of each run of a part that was made to run later
pub data Events (E : Type 0) : Type 0 where
  Nothing : Events E
  Did : E → Events E → Events E
  Made : Events E → Events E → Events E

abbrev pub append : {E : Type 0} → Events E → Events E → Events E
append Nothing fs = fs
append (Did e es) fs = Did e (append es fs)
append (Made gs es) fs = Made gs (append es fs)

-- how a run ends other than at its end
pub data Exit (T : Type 0) : Type 0 where
  Jumped : T → Exit T
  Threw : Exit T

pub data End (T : Type 0) : Type 0 where
  Normal : End T
  By : Exit T → End T

-- how a test ends
pub data Outcome (T : Type 0) : Type 0 where
  Is : Bool → Outcome T
  Out : Exit T → Outcome T

module _ {E T : Type 0} where
  mutual
    pub data Runs : Act E T → Events E → End T → Type 0 where
      skip : Runs Skip Nothing Normal
      does : (e : E) → Runs (Does e) (Did e Nothing) Normal
      asks : (c : Test E T) (es : Events E) (b : Bool) → Tests c es (Is b) → Runs (Asks c) es Normal
      asks_ends : (c : Test E T) (es : Events E) (j : Exit T) → Tests c es (Out j) → Runs (Asks c) es (By j)
      jumps : (t : T) → Runs (Jumps t) Nothing (By (Jumped t))
      then_ : (x y : Act E T) (es fs : Events E) (e : End T) → Runs x es Normal → Runs y fs e → Runs (Then x y) (append es fs) e
      then_ends : (x y : Act E T) (es : Events E) (j : Exit T) → Runs x es (By j) → Runs (Then x y) es (By j)
      if_true : (l : Bool) (c : Test E T) (x y : Act E T) (es fs : Events E) (e : End T) → Tests c es (Is true) → Runs x fs e → Runs (If l c x y) (append es fs) e
      if_false : (l : Bool) (c : Test E T) (x y : Act E T) (es fs : Events E) (e : End T) → Tests c es (Is false) → Runs y fs e → Runs (If l c x y) (append es fs) e
      if_ends : (l : Bool) (c : Test E T) (x y : Act E T) (es : Events E) (j : Exit T) → Tests c es (Out j) → Runs (If l c x y) es (By j)
      again : (x : Act E T) (es fs : Events E) (e : End T) → Runs x es Normal → Runs (Forever x) fs e → Runs (Forever x) (append es fs) e
      forever_ends : (x : Act E T) (es : Events E) (j : Exit T) → Runs x es (By j) → Runs (Forever x) es (By j)
      block : (t : T) (x : Act E T) (es : Events E) → Runs x es Normal → Runs (Block t x) es Normal
      block_left : (t : T) (x : Act E T) (es : Events E) → Runs x es (By (Jumped t)) → Runs (Block t x) es Normal
      block_passed : (t : T) (x : Act E T) (es : Events E) (s : T) → Runs x es (By (Jumped s)) → (t ≡ s → ⊥) → Runs (Block t x) es (By (Jumped s))
      block_throws : (t : T) (x : Act E T) (es : Events E) → Runs x es (By Threw) → Runs (Block t x) es (By Threw)
      switch : (d : Bool) (gs : Groups E T) (es : Events E) (e : End T) → Enters gs es e → Runs (Switch d gs) es e
      no_group : (gs : Groups E T) → Runs (Switch false gs) Nothing Normal
      tried : (x y : Act E T) (es : Events E) (e : End T) → Runs x es e → Runs (Try x y) es e
      caught : (x y : Act E T) (es fs : Events E) (e : End T) → Runs x es (By Threw) → Runs y fs e → Runs (Try x y) (append es fs) e
      finished : (x y : Act E T) (es fs : Events E) (e : End T) → Runs x es e → Runs y fs Normal → Runs (Finally x y) (append es fs) e
      finally_ends : (x y : Act E T) (es fs : Events E) (e : End T) (j : Exit T) → Runs x es e → Runs y fs (By j) → Runs (Finally x y) (append es fs) (By j)
      later : (x : Act E T) → Runs (Later x) Nothing Normal
      later_runs : (x : Act E T) (es gs : Events E) (e : End T) → Runs x es e → Runs (Later x) gs Normal → Runs (Later x) (Made es gs) Normal
      -- an exception may come at any moment: before a part, and behind it
      throws : (x : Act E T) → Runs x Nothing (By Threw)
      throws_behind : (x : Act E T) (es : Events E) (e : End T) → Runs x es e → Runs x es (By Threw)

    pub data Tests : Test E T → Events E → Outcome T → Type 0 where
      constant : (b : Bool) → Tests (Constant b) Nothing (Is b)
      value : (x : Act E T) (es : Events E) (b : Bool) → Runs x es Normal → Tests (Value x) es (Is b)
      value_ends : (x : Act E T) (es : Events E) (j : Exit T) → Runs x es (By j) → Tests (Value x) es (Out j)
      and_true : (c d : Test E T) (es fs : Events E) (o : Outcome T) → Tests c es (Is true) → Tests d fs o → Tests (And c d) (append es fs) o
      and_false : (c d : Test E T) (es : Events E) → Tests c es (Is false) → Tests (And c d) es (Is false)
      and_ends : (c d : Test E T) (es : Events E) (j : Exit T) → Tests c es (Out j) → Tests (And c d) es (Out j)
      or_false : (c d : Test E T) (es fs : Events E) (o : Outcome T) → Tests c es (Is false) → Tests d fs o → Tests (Or c d) (append es fs) o
      or_true : (c d : Test E T) (es : Events E) → Tests c es (Is true) → Tests (Or c d) es (Is true)
      or_ends : (c d : Test E T) (es : Events E) (j : Exit T) → Tests c es (Out j) → Tests (Or c d) es (Out j)
      not_true : (c : Test E T) (es : Events E) → Tests c es (Is true) → Tests (Not c) es (Is false)
      not_false : (c : Test E T) (es : Events E) → Tests c es (Is false) → Tests (Not c) es (Is true)
      not_ends : (c : Test E T) (es : Events E) (j : Exit T) → Tests c es (Out j) → Tests (Not c) es (Out j)
      choose_true : (c d f : Test E T) (es fs : Events E) (o : Outcome T) → Tests c es (Is true) → Tests d fs o → Tests (Choose c d f) (append es fs) o
      choose_false : (c d f : Test E T) (es fs : Events E) (o : Outcome T) → Tests c es (Is false) → Tests f fs o → Tests (Choose c d f) (append es fs) o
      choose_ends : (c d f : Test E T) (es : Events E) (j : Exit T) → Tests c es (Out j) → Tests (Choose c d f) es (Out j)

    -- from the first group on
    pub data Falls : Groups E T → Events E → End T → Type 0 where
      done : Falls Done Nothing Normal
      falls : (x : Act E T) (more : Groups E T) (es fs : Events E) (e : End T) → Runs x es Normal → Falls more fs e → Falls (Group x more) (append es fs) e
      leaves : (x : Act E T) (more : Groups E T) (es : Events E) (j : Exit T) → Runs x es (By j) → Falls (Group x more) es (By j)

    -- from any group on
    pub data Enters : Groups E T → Events E → End T → Type 0 where
      first : (x : Act E T) (more : Groups E T) (es : Events E) (e : End T) → Falls (Group x more) es e → Enters (Group x more) es e
      further : (x : Act E T) (more : Groups E T) (es : Events E) (e : End T) → Enters more es e → Enters (Group x more) es e

-- ---- what runs are said to do and not to do

module _ {V P : Type 0} (is : V → Bool) where
  -- Each read of the variable finds it assigned: where `b`, or behind an assignment. A part that runs later finds what was
  -- assigned when it was made.
  abbrev pub FindsAssigned : Bool → Events (Use V P) → Type 0
  FindsAssigned b Nothing = Unit {0}
  FindsAssigned b (Did (Reads v p) es) = (is v ≡ true → b ≡ true) × FindsAssigned b es
  FindsAssigned b (Did (Assigns v p) es) = FindsAssigned (is v || b) es
  FindsAssigned b (Did (Reaches p) es) = FindsAssigned b es
  FindsAssigned b (Made gs es) = FindsAssigned b gs × FindsAssigned b es

  -- how often the variable is assigned
  abbrev pub times : Events (Use V P) → ℕ
  times Nothing = 0
  times (Did (Reads v p) es) = times es
  times (Did (Assigns v p) es) = one_if (is v) + times es
  times (Did (Reaches p) es) = times es
  times (Made gs es) = times es

  -- no part that runs later assigns it
  abbrev pub NoneLater : Events (Use V P) → Type 0
  NoneLater Nothing = Unit {0}
  NoneLater (Did e es) = NoneLater es
  NoneLater (Made gs es) = ((times gs ≡ 0) × NoneLater gs) × NoneLater es

module _ {V P : Type 0} (here : P → Bool) where
  -- none of these places is reached
  abbrev pub ReachesNone : Events (Use V P) → Type 0
  ReachesNone Nothing = Unit {0}
  ReachesNone (Did (Reads v p) es) = ReachesNone es
  ReachesNone (Did (Assigns v p) es) = ReachesNone es
  ReachesNone (Did (Reaches p) es) = (here p ≡ false) × ReachesNone es
  ReachesNone (Made gs es) = ReachesNone gs × ReachesNone es
