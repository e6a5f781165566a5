-- An answer changes nothing but what it says.
use Rattle.std.proofs.Common.{◌≡◌, ◌≢◌, ℕ, zero, suc, ◌+◌, Bool, true, false, ◌==◌, List, [], ◌∷◌, ◌++◌, Option, Some, None, slice_get, if◌then◌else◌, refl, sym, ap, ◌∙◌, subst, arith, append-nil}
use Rattle.meanings.specs.Values.{ClassName, same_class, Value, same_value, Step, Touch, InitEnd, Alloc, Built, Get, Put, GetStatic, PutStatic, GetElem, PutElem, Enter, Exit, Print, ReadByte, Lib, Raise, Start, Join, End, Torn, Answer}
use Rattle.meanings.specs.Library.{Row, library}
use Rattle.meanings.specs.World.{World, Hold, Reply, ClassState, Untouched, Running, IsReady, IsFailed, state_of, touch_answer, ended_class, hold_of, with_hold, enter_answer, exited, was_started, is_running, start_answer, read_answer, library_answer, answer}
use Rattle.meanings.specs.Laws.{printed, left, statics_after, changes_heap, changes_threads, names_class, count_of, entries, owned, exits, Answered}
use Rattle.meanings.proofs.SameValues.{same_class_true, same_value_true}

-- of the world after, where the step isn't blocked
abbrev pub OnReply : Reply → (World → Type 0) → Type 0
OnReply None P = Unit {0}
OnReply (Some r) P = P r.0

-- ---- steps that leave classes and monitors

no_monitor : (k : ℕ) → k + 0 ≡ k + 0
no_monitor k = refl

module _ (w : World) (thread : ℕ) where
  -- a step that prints, reads and stores nothing
  still : (p : Step) (after : World) → printed p ≡ [] → left p w.input ≡ w.input → statics_after p w.statics ≡ w.statics →
      after.output ≡ w.output → after.input ≡ w.input → after.statics ≡ w.statics → after.defaults ≡ w.defaults → after.classes ≡ w.classes → after.monitors ≡ w.monitors →
      (changes_heap p ≡ false → after.heap ≡ w.heap) → (changes_threads p ≡ false → after.threads ≡ w.threads) →
      ((v : Value) → exits w thread p v ≡ entries p v) → Answered w thread p after
  still p after none same same' eo ei es ed ec em heap threads counts = record {
    output = eo ∙ sym (append-nil w.output) ∙ ap (λ (units : List ℕ). w.output ++ units) (sym none);
    input = ei ∙ sym same;
    statics = es ∙ sym same';
    defaults = ed;
    heap = heap;
    threads = threads;
    classes = λ class other. ap (λ (classes : List (ClassName × ClassState)). state_of classes class) ec;
    ready = λ class h. ap (λ (classes : List (ClassName × ClassState)). state_of classes class) ec ∙ h;
    failed = λ class h. ap (λ (classes : List (ClassName × ClassState)). state_of classes class) ec ∙ h;
    monitors = λ v. ap (λ (monitors : List (Value × Hold)). (hold_of monitors v).count + exits w thread p v) em ∙ ap (λ (k : ℕ). count_of w v + k) (counts v);
  }

  -- nothing changes at all
  same : (p : Step) → printed p ≡ [] → left p w.input ≡ w.input → statics_after p w.statics ≡ w.statics → ((v : Value) → exits w thread p v ≡ entries p v) → Answered w thread p w
  same p none keeps keeps' counts = still p w none keeps keeps' refl refl refl refl refl refl (λ e. refl) (λ e. refl) counts

  if_reply : (b : Bool) (r : World × Answer) (P : World → Type 0) → P r.0 → OnReply (if b then Some r else None) P
  if_reply true r P h = h
  if_reply false r P h = tt

  if_none : (b : Bool) (r : World × Answer) (P : World → Type 0) → P r.0 → OnReply (if b then None else Some r) P
  if_none true r P h = tt
  if_none false r P h = h

  -- ---- classes

  kept_state : (classes : List (ClassName × ClassState)) (class other : ClassName) (new old st : ClassState) → state_of classes class ≡ old → old ≢ st → state_of classes other ≡ st → state_of ((class, new) ∷ classes) other ≡ st
  kept_state classes class other new old st is ne h = go (same_class class other) refl
    where
      go : (b : Bool) → same_class class other ≡ b → (if b then new else state_of classes other) ≡ st
      go true e = absurd (ne (sym is ∙ ap (state_of classes) (same_class_true class other e) ∙ h))
      go false e = h

  other_state : (classes : List (ClassName × ClassState)) (class other : ClassName) (new : ClassState) → same_class class other ≡ false → state_of ((class, new) ∷ classes) other ≡ state_of classes other
  other_state classes class other new e = rw e refl

  -- a class that is neither ready nor failed gets another state
  class_changed : (p : Step) (class : ClassName) (old new : ClassState) → printed p ≡ [] → left p w.input ≡ w.input → statics_after p w.statics ≡ w.statics → ((v : Value) → exits w thread p v ≡ entries p v) →
      ((other : ClassName) → names_class p other ≡ same_class class other) → state_of w.classes class ≡ old → old ≢ IsReady → old ≢ IsFailed → Answered w thread p (record w { classes = (class, new) ∷ w.classes })
  class_changed p class old new none keeps keeps' counts names is not_ready not_failed = record {
    output = sym (append-nil w.output) ∙ ap (λ (units : List ℕ). w.output ++ units) (sym none);
    input = sym keeps;
    statics = sym keeps';
    defaults = refl;
    heap = λ e. refl;
    threads = λ e. refl;
    classes = λ other e. other_state w.classes class other new (sym (names other) ∙ e);
    ready = λ other h. kept_state w.classes class other new old IsReady is not_ready h;
    failed = λ other h. kept_state w.classes class other new old IsFailed is not_failed h;
    monitors = λ v. ap (λ (k : ℕ). count_of w v + k) (counts v);
  }

  touch_answered : (class : ClassName) (st : ClassState) → state_of w.classes class ≡ st → OnReply (touch_answer w thread class st) (Answered w thread (Touch class))
  touch_answered class Untouched is = class_changed (Touch class) class Untouched (Running thread) refl refl refl (λ v. refl) (λ other. refl) is (λ e. cc) (λ e. cc)
  touch_answered class (Running owner) is = if_reply (owner == thread) _ (Answered w thread (Touch class)) (same (Touch class) refl refl refl (λ v. refl))
  touch_answered class IsReady is = same (Touch class) refl refl refl (λ v. refl)
  touch_answered class IsFailed is = same (Touch class) refl refl refl (λ v. refl)

  init_answered : (class : ClassName) (well : Bool) (st : ClassState) → state_of w.classes class ≡ st → Answered w thread (InitEnd class well) (record w { classes = ended_class w.classes thread class well st })
  init_answered class well Untouched is = same (InitEnd class well) refl refl refl (λ v. refl)
  init_answered class well IsReady is = same (InitEnd class well) refl refl refl (λ v. refl)
  init_answered class well IsFailed is = same (InitEnd class well) refl refl refl (λ v. refl)
  init_answered class well (Running owner) is = go (owner == thread)
    where
      go : (b : Bool) → Answered w thread (InitEnd class well) (record w { classes = if b then (class, if well then IsReady else IsFailed) ∷ w.classes else w.classes })
      go true = class_changed (InitEnd class well) class (Running owner) (if well then IsReady else IsFailed) refl refl refl (λ v. refl) (λ other. refl) is (λ e. cc) (λ e. cc)
      go false = same (InitEnd class well) refl refl refl (λ v. refl)

  -- ---- monitors

  counts_after : (v u : Value) (k : ℕ) (f g : Bool → ℕ) → f false ≡ 0 → g false ≡ 0 → k + f true ≡ count_of w v + g true →
      count_of (with_hold w v thread k) u + f (same_value v u) ≡ count_of w u + g (same_value v u)
  counts_after v u k f g f0 g0 h = go (same_value v u) refl
    where
      go : (b : Bool) → same_value v u ≡ b → (if b then record { owner = thread; count = k } else hold_of w.monitors u).count + f b ≡ count_of w u + g b
      go true e = subst (λ (x : Value). k + f true ≡ count_of w x + g true) (same_value_true v u e) h
      go false e = ap (λ (x : ℕ). count_of w u + x) (f0 ∙ sym g0)

  hold_changed : (p : Step) (v : Value) (k : ℕ) → printed p ≡ [] → left p w.input ≡ w.input → statics_after p w.statics ≡ w.statics →
      ((u : Value) → count_of (with_hold w v thread k) u + exits w thread p u ≡ count_of w u + entries p u) → Answered w thread p (with_hold w v thread k)
  hold_changed p v k none keeps keeps' counts = record {
    output = sym (append-nil w.output) ∙ ap (λ (units : List ℕ). w.output ++ units) (sym none);
    input = sym keeps;
    statics = sym keeps';
    defaults = refl;
    heap = λ e. refl;
    threads = λ e. refl;
    classes = λ other e. refl;
    ready = λ other h. h;
    failed = λ other h. h;
    monitors = counts;
  }

  enter_answered : (v : Value) (owner count : ℕ) → count_of w v ≡ count → OnReply (enter_answer w thread v owner count) (Answered w thread (Enter v))
  enter_answered v owner zero is = hold_changed (Enter v) v 1 refl refl refl (λ u. counts_after v u 1 (λ b. 0) (λ b. if b then 1 else 0) refl refl (rw is refl))
  enter_answered v owner (suc k) is =
      if_reply (owner == thread) _ (Answered w thread (Enter v)) (hold_changed (Enter v) v (suc (suc k)) refl refl refl (λ u. counts_after v u (suc (suc k)) (λ b. 0) (λ b. if b then 1 else 0) refl refl (omega (arith, is))))

  -- what counts as an exit of the monitor
  owned_is : (v : Value) (owner count : ℕ) → (hold_of w.monitors v).owner ≡ owner → count_of w v ≡ count → owned thread (hold_of w.monitors v).owner (count_of w v) ≡ owned thread owner count
  owned_is v owner count eo ec = ap (λ (x : ℕ). owned thread x (count_of w v)) eo ∙ ap (λ (x : ℕ). owned thread owner x) ec

  no_exit : (v : Value) → owned thread (hold_of w.monitors v).owner (count_of w v) ≡ 0 → (u : Value) → exits w thread (Exit v) u ≡ entries (Exit v) u
  no_exit v none u = go (same_value v u)
    where
      go : (b : Bool) → (if b then owned thread (hold_of w.monitors v).owner (count_of w v) else 0) ≡ 0
      go true = none
      go false = refl

  exit_answered : (v : Value) (owner count : ℕ) → (hold_of w.monitors v).owner ≡ owner → count_of w v ≡ count → Answered w thread (Exit v) (exited w thread v owner count)
  exit_answered v owner zero eo ec = same (Exit v) refl refl refl (no_exit v (owned_is v owner zero eo ec))
  exit_answered v owner (suc k) eo ec = go (owner == thread) refl
    where
      go : (b : Bool) → (owner == thread) ≡ b → Answered w thread (Exit v) (if b then with_hold w v thread k else w)
      go true e =
          let one : owned thread (hold_of w.monitors v).owner (count_of w v) ≡ 1 = owned_is v owner (suc k) eo ec ∙ ap (λ (b : Bool). if b then 1 else 0) e in
          hold_changed (Exit v) v k refl refl refl (λ u. counts_after v u k (λ b. if b then owned thread (hold_of w.monitors v).owner (count_of w v) else 0) (λ b. 0) refl refl (omega (arith, one, ec)))
      go false e = same (Exit v) refl refl refl (no_exit v (owned_is v owner (suc k) eo ec ∙ ap (λ (b : Bool). if b then 1 else 0) e))

  -- ---- input, threads and the library

  read_answered : (input : List ℕ) → w.input ≡ input → OnReply (read_answer w input) (Answered w thread ReadByte)
  read_answered [] is = same ReadByte refl (rw is refl) refl (λ v. refl)
  read_answered (b ∷ input) is = record {
    output = sym (append-nil w.output);
    input = rw is refl;
    statics = refl;
    defaults = refl;
    heap = λ e. refl;
    threads = λ e. refl;
    classes = λ other e. refl;
    ready = λ other h. h;
    failed = λ other h. h;
    monitors = λ v. refl;
  }

  start_answered : (v : Value) (b : Bool) → OnReply (start_answer w v b) (Answered w thread (Start v))
  start_answered v true = still (Start v) _ refl refl refl refl refl refl refl refl refl (λ e. cc) (λ e. refl) (λ u. refl)
  start_answered v false = still (Start v) _ refl refl refl refl refl refl refl refl refl (λ e. refl) (λ e. cc) (λ u. refl)

  library_answered : (k : ℕ) (vs : List Value) (row : Option Row) → OnReply (library_answer w vs row) (Answered w thread (Lib k vs))
  library_answered k vs None = tt
  library_answered k vs (Some row) = still (Lib k vs) _ refl refl refl refl refl refl refl refl refl (λ e. cc) (λ e. refl) (λ u. refl)

  -- ---- each step

  pub answered : (p : Step) → OnReply (answer w thread p) (Answered w thread p)
  answered (Touch class) = touch_answered class (state_of w.classes class) refl
  answered (InitEnd class well) = init_answered class well (state_of w.classes class) refl
  answered (Alloc shape) = still (Alloc shape) _ refl refl refl refl refl refl refl refl refl (λ e. cc) (λ e. refl) (λ u. refl)
  answered (Built v) = same (Built v) refl refl refl (λ u. refl)
  answered (Get v field) = same (Get v field) refl refl refl (λ u. refl)
  answered (Put v field new) = still (Put v field new) _ refl refl refl refl refl refl refl refl refl (λ e. cc) (λ e. refl) (λ u. refl)
  answered (GetStatic field) = same (GetStatic field) refl refl refl (λ u. refl)
  answered (PutStatic field new) = record {
    output = sym (append-nil w.output);
    input = refl;
    statics = refl;
    defaults = refl;
    heap = λ e. refl;
    threads = λ e. refl;
    classes = λ other e. refl;
    ready = λ other h. h;
    failed = λ other h. h;
    monitors = λ v. refl;
  }
  answered (GetElem v k) = same (GetElem v k) refl refl refl (λ u. refl)
  answered (PutElem v k new) = still (PutElem v k new) _ refl refl refl refl refl refl refl refl refl (λ e. cc) (λ e. refl) (λ u. refl)
  answered (Enter v) = enter_answered v (hold_of w.monitors v).owner (hold_of w.monitors v).count refl
  answered (Exit v) = exit_answered v (hold_of w.monitors v).owner (hold_of w.monitors v).count refl refl
  answered (Print units) = record {
    output = refl;
    input = refl;
    statics = refl;
    defaults = refl;
    heap = λ e. refl;
    threads = λ e. refl;
    classes = λ other e. refl;
    ready = λ other h. h;
    failed = λ other h. h;
    monitors = λ v. refl;
  }
  answered ReadByte = read_answered w.input refl
  answered (Lib k vs) = library_answered k vs (slice_get library k)
  answered (Raise class) = still (Raise class) _ refl refl refl refl refl refl refl refl refl (λ e. cc) (λ e. refl) (λ u. refl)
  answered (Start v) = start_answered v (was_started w.threads v)
  answered (Join v) = if_none (is_running w.threads v) _ (Answered w thread (Join v)) (same (Join v) refl refl refl (λ u. refl))
  answered (End ending) = still (End ending) _ refl refl refl refl refl refl refl refl refl (λ e. refl) (λ e. cc) (λ u. refl)
  answered Torn = same Torn refl refl refl (λ u. refl)

pub answer_says : (w : World) (thread : ℕ) (p : Step) (after : World) (a : Answer) → answer w thread p ≡ Some (after, a) → Answered w thread p after
answer_says w thread p after a e = subst (λ (r : Reply). OnReply r (Answered w thread p)) e (answered w thread p)
