-- No run of a typed program asks Torn: one induction over the schedule.
use Rattle.std.proofs.Common.{◌≡◌, ◌≢◌, ℕ, zero, suc, ◌+◌, ◌≤◌, Bool, true, false, List, [], ◌∷◌, ◌++◌, length, Option, Some, None, slice_get, slice_set, refl, sym, ◌∙◌, ap, subst, arith, if◌then◌else◌, ◌==◌}
use Rattle.std.proofs.lemmas.Bool.{eqb-true, ne_eqb}
use Rattle.meanings.specs.Values.{Name, ClassName, same_class, Field, Value, Step, Touch, InitEnd, Alloc, Built, Get, Put, GetStatic, PutStatic, GetElem, PutElem, Enter, Exit, Print, ReadByte, Lib, Raise, Join, End, Torn, Answer, Ready, Run, Mine, Failed, Done, Given, Raised}
use Rattle.meanings.specs.Values as values
use Rattle.meanings.specs.Outcome.{Locals, State, Jump, Exits, Returns, Throws, Jumps}
use Rattle.meanings.specs.Program.{Program, Turn, Next, IsBusy, Ended, at_end, turn, bodies, thread_from, thread, thread_at}
use Rattle.meanings.specs.World.{World, Status, ClassState, Untouched, Running, IsReady, IsFailed, state_of, Reply, answer, touch_answer, ended_class, enter_answer, exited, start_answer, read_answer, library_answer}
use Rattle.meanings.specs.Library.{library}
use Rattle.meanings.specs.Runs.{Thread, Behavior, After, begun, with_new, replied, turned, turn_of, run, NeverTorn}
use Rattle.meanings.specs.Laws.{SameAtEveryDepth}
use Rattle.meanings.specs.Tables.{Table, Made, Known, is_mine, Later, Between, Ok, Moved}
use Rattle.meanings.specs.Safety.{Plan, with_made, Safe, asks, is_busy, gives, jumps, FreeIn, TypedProgram, EntersWell, AllEnter, NeverTornWhereTyped}
use Rattle.meanings.proofs.RunLaws.{run_never_torn}
use Rattle.meanings.proofs.KnownLaws.{has_later, between_self, between_on}
use Rattle.meanings.proofs.Lists.{length_snoc}
use Rattle.meanings.proofs.SafeLaws.{same_safe}
use Rattle.meanings.proofs.SafeSteps.{as_it_was, reply, reply_is, newest_at, NewestAt, own_state, other_state}
use Rattle.meanings.proofs.SafePrograms.{thread_sound}

-- ---- what a step of one thread leaves to another

-- steps that aren't about classes leave them
abbrev is_class_step : Step → Bool
is_class_step (Touch class) = true
is_class_step (InitEnd class well) = true
is_class_step _ = false

module _ (t : Table) (i : ℕ) (w w' : World) (a : Answer) where
  enter_classes : (v : Value) (owner count : ℕ) → enter_answer w i v owner count ≡ Some (w', a) → w'.classes ≡ w.classes
  enter_classes v owner zero e = ap (λ (w : World). w.classes) (sym (reply_is t i e).0)
  enter_classes v owner (suc count) e = owned (owner == i) e where
    owned : (b : Bool) → (if b then reply t i (record w { monitors = (v, record { owner = i; count = suc (suc count) }) ∷ w.monitors }) Done else None) ≡ reply t i w' a → w'.classes ≡ w.classes
    owned true e = ap (λ (w : World). w.classes) (sym (reply_is t i e).0)
    owned false e = cc

  exit_classes : (v : Value) (owner count : ℕ) → reply t i (exited w i v owner count) Done ≡ reply t i w' a → w'.classes ≡ w.classes
  exit_classes v owner zero e = ap (λ (w : World). w.classes) (sym (reply_is t i e).0)
  exit_classes v owner (suc count) e = owned (owner == i) e where
    owned : (b : Bool) → reply t i (if b then (record w { monitors = (v, record { owner = i; count = count }) ∷ w.monitors }) else w) Done ≡ reply t i w' a → w'.classes ≡ w.classes
    owned true e = ap (λ (w : World). w.classes) (sym (reply_is t i e).0)
    owned false e = ap (λ (w : World). w.classes) (sym (reply_is t i e).0)

  start_classes : (v : Value) (b : Bool) → start_answer w v b ≡ Some (w', a) → w'.classes ≡ w.classes
  start_classes v true e = ap (λ (w : World). w.classes) (sym (reply_is t i e).0)
  start_classes v false e = ap (λ (w : World). w.classes) (sym (reply_is t i e).0)

  read_classes : (input : List ℕ) → read_answer w input ≡ Some (w', a) → w'.classes ≡ w.classes
  read_classes [] e = ap (λ (w : World). w.classes) (sym (reply_is t i e).0)
  read_classes (b ∷ input) e = ap (λ (w : World). w.classes) (sym (reply_is t i e).0)

  join_classes : (b : Bool) → (if b then None else reply t i w Done) ≡ reply t i w' a → w'.classes ≡ w.classes
  join_classes true e = cc
  join_classes false e = ap (λ (w : World). w.classes) (sym (reply_is t i e).0)

  library_classes : (vs : List Value) (r : _) → library_answer w vs r ≡ Some (w', a) → w'.classes ≡ w.classes
  library_classes vs None e = cc
  library_classes vs (Some row) e = ap (λ (w : World). w.classes) (sym (reply_is t i e).0)

  classes_stay : (p : Step) → is_class_step p ≡ false → answer w i p ≡ Some (w', a) → w'.classes ≡ w.classes
  classes_stay (Touch class) off e = cc
  classes_stay (InitEnd class well) off e = cc
  classes_stay (Enter v) off e = enter_classes v _ _ e
  classes_stay (Exit v) off e = exit_classes v _ _ e
  classes_stay ReadByte off e = read_classes w.input e
  classes_stay (Lib row vs) off e = library_classes vs (slice_get library row) e
  classes_stay (values.Start x) off e = start_classes x _ e
  classes_stay (Join x) off e = join_classes _ e
  classes_stay (Alloc shape) off e = ap (λ (w : World). w.classes) (sym (reply_is t i e).0)
  classes_stay (Built x) off e = ap (λ (w : World). w.classes) (sym (reply_is t i e).0)
  classes_stay (Get x f) off e = ap (λ (w : World). w.classes) (sym (reply_is t i e).0)
  classes_stay (Put x f y) off e = ap (λ (w : World). w.classes) (sym (reply_is t i e).0)
  classes_stay (GetStatic f) off e = ap (λ (w : World). w.classes) (sym (reply_is t i e).0)
  classes_stay (PutStatic f y) off e = ap (λ (w : World). w.classes) (sym (reply_is t i e).0)
  classes_stay (GetElem x k) off e = ap (λ (w : World). w.classes) (sym (reply_is t i e).0)
  classes_stay (PutElem x k y) off e = ap (λ (w : World). w.classes) (sym (reply_is t i e).0)
  classes_stay (Print units) off e = ap (λ (w : World). w.classes) (sym (reply_is t i e).0)
  classes_stay (Raise class) off e = ap (λ (w : World). w.classes) (sym (reply_is t i e).0)
  classes_stay (End ending) off e = ap (λ (w : World). w.classes) (sym (reply_is t i e).0)
  classes_stay Torn off e = ap (λ (w : World). w.classes) (sym (reply_is t i e).0)

  -- another thread's initializations go on as they were
  module _ (j : ℕ) (other : (i == j) ≡ false) where
    other_owner : (owner : ℕ) → (owner == i) ≡ true → (owner == j) ≡ false
    other_owner owner e = ap (λ (k : ℕ). k == j) (eqb-true owner i e) ∙ other

    new_mine : (class d : ClassName) (new old : ClassState) → is_mine j new ≡ false → is_mine j old ≡ false → state_of w.classes class ≡ old → NewestAt t i class new w.classes d → is_mine j (state_of w.classes d) ≡ is_mine j (state_of ((class, new) ∷ w.classes) d)
    new_mine class d new old quiet was e (own_state same s h) = ap (λ (x : ClassName). is_mine j (state_of w.classes x)) (sym same) ∙ ap (is_mine j) e ∙ was ∙ sym quiet ∙ ap (is_mine j) (sym h)
    new_mine class d new old quiet was e (other_state s h) = ap (is_mine j) (sym h)

    touch_mine : (class : ClassName) (s : ClassState) → state_of w.classes class ≡ s → touch_answer w i class s ≡ Some (w', a) → (d : ClassName) → is_mine j (state_of w.classes d) ≡ is_mine j (state_of w'.classes d)
    touch_mine class Untouched e r d = new_mine class d (Running i) Untouched other refl e (newest_at t i class (Running i) w.classes d (same_class class d) refl) ∙ ap (λ (w : World). is_mine j (state_of w.classes d)) (reply_is t i r).0
    touch_mine class (Running owner) e r d = owned (owner == i) r where
      owned : (b : Bool) → (if b then reply t i w Mine else None) ≡ reply t i w' a → is_mine j (state_of w.classes d) ≡ is_mine j (state_of w'.classes d)
      owned true r = ap (λ (w : World). is_mine j (state_of w.classes d)) (reply_is t i r).0
      owned false r = cc
    touch_mine class IsReady e r d = ap (λ (w : World). is_mine j (state_of w.classes d)) (reply_is t i r).0
    touch_mine class IsFailed e r d = ap (λ (w : World). is_mine j (state_of w.classes d)) (reply_is t i r).0

    ended_quiet : (well : Bool) → is_mine j (if well then IsReady else IsFailed) ≡ false
    ended_quiet true = refl
    ended_quiet false = refl

    end_mine : (class : ClassName) (well : Bool) (s : ClassState) → state_of w.classes class ≡ s → (d : ClassName) → is_mine j (state_of w.classes d) ≡ is_mine j (state_of (ended_class w.classes i class well s) d)
    end_mine class well Untouched e d = refl
    end_mine class well (Running owner) e d = owned (owner == i) refl where
      owned : (b : Bool) → (owner == i) ≡ b → is_mine j (state_of w.classes d) ≡ is_mine j (state_of (if b then (class, if well then IsReady else IsFailed) ∷ w.classes else w.classes) d)
      owned true same = new_mine class d (if well then IsReady else IsFailed) (Running owner) (ended_quiet well) (other_owner owner same) e (newest_at t i class (if well then IsReady else IsFailed) w.classes d (same_class class d) refl)
      owned false same = refl
    end_mine class well IsReady e d = refl
    end_mine class well IsFailed e d = refl

    pub others_mine : (p : Step) → answer w i p ≡ Some (w', a) → (d : ClassName) → is_mine j (state_of w.classes d) ≡ is_mine j (state_of w'.classes d)
    others_mine p e d = by p (is_class_step p) refl e where
      by : (p : Step) (b : Bool) → is_class_step p ≡ b → answer w i p ≡ Some (w', a) → is_mine j (state_of w.classes d) ≡ is_mine j (state_of w'.classes d)
      by (Touch class) true c e = touch_mine class (state_of w.classes class) refl e d
      by (InitEnd class well) true c e = end_mine class well (state_of w.classes class) refl d ∙ ap (λ (w : World). is_mine j (state_of w.classes d)) (reply_is t i e).0
      by p false c e = ap (λ (cs : List (ClassName × ClassState)). is_mine j (state_of cs d)) (sym (classes_stay p c e))
      by p true c e = cc

-- ---- one thread within a run

module _ (t : Table) (i : ℕ) where
  pub data Going (K : Known) (b : Plan Value) : Type 0 where
    going : Safe t i (λ K v l. Unit {0}) (λ K j l. Unit {0}) K b → Going K b
    over : ((xs : List Answer) → turn (b xs) ≡ Ended) → Going K b

  end_fine : (xs : List Answer) (x : _) → at_end xs (End x) ≢ Next Torn
  end_fine [] x e = cc
  end_fine (a ∷ xs) x e = cc

  next_is : (p q : Step) → Next p ≡ Next q → p ≡ q
  next_is p q e = cc

  jump_fine : (j : Jump) (s : State) → turn (Jumps j s) ≢ Next Torn
  jump_fine (Throws v) s = end_fine s.answers _
  jump_fine (Returns v) s = end_fine s.answers _
  jump_fine (Exits e) s = end_fine s.answers _

  pub turn_fine : (K : Known) (b : Plan Value) → Going K b → turn (b []) ≢ Next Torn
  turn_fine K b (going (asks p grow e fine moves rest)) h = fine.0 (next_is p Torn (sym (ap turn e) ∙ h))
  turn_fine K b (going (is_busy e)) h = let no : IsBusy ≡ Next Torn = sym (ap turn (e [])) ∙ h in cc
  turn_fine K b (going (gives a l n e q)) h = end_fine [] _ (sym (ap turn (e [])) ∙ h)
  turn_fine K b (going (jumps j l n e q)) h = jump_fine j _ (sym (ap turn (e [])) ∙ h)
  turn_fine K b (over e) h = let no : Ended ≡ Next Torn = sym (e []) ∙ h in cc

  -- what a step of a thread leaves
  pub record StepOn (K : Known) (p : Step) (w : World) (a : Answer) (b : Plan Value) : Type 0 where
    pub grow : List Made → List Made
    pub moved : Moved t K (with_made K grow w)
    pub no_start : (v : Value) → p ≢ values.Start v
    pub on : Going (with_made K grow w) (λ xs. b (a ∷ xs))

  threads_moved : (K : Known) (threads : List Status) → Ok t K → Moved t K (with_made K as_it_was (record K.world { threads = threads }))
  threads_moved K threads ok =
      let le : Later K (with_made K as_it_was (record K.world { threads = threads })) = record { shapes = λ k x h. h; fields = λ j g h. h; statics = λ g h. h } in
      record {
        later = le;
        ok = record {
          size = ok.size;
          defaults = ok.defaults;
          fields = λ j g def h. has_later t le _ (t.field_type g) (ok.fields j g def h);
          statics = λ g def h. has_later t le _ (t.static_type g) (ok.statics g def h);
          arrays = λ j type size h. record { count = (ok.arrays j type size h).count; each = λ i l. has_later t le _ type ((ok.arrays j type size h).each i l) };
          ready = ok.ready;
        };
      }

  end_on : (K : Known) (p : Step) (w : World) (a : Answer) (b : Plan Value) (x : _) → Ok t K → End x ≡ p → answer K.world i p ≡ Some (w, a) → ((xs : List Answer) → turn (b (a ∷ xs)) ≡ Ended) → StepOn K p w a b
  end_on K p w a b x ok e r ended =
      let r' : answer K.world i (End x) ≡ Some (w, a) = ap (answer K.world i) e ∙ r in
      record {
        grow = as_it_was;
        moved = subst (λ (w : World). Moved t K (with_made K as_it_was w)) (reply_is t i r').0 (threads_moved K _ ok);
        no_start = λ v h. let no : End x ≡ values.Start v = e ∙ h in cc;
        on = over ended;
      }

  jump_on : (K : Known) (p : Step) (w : World) (a : Answer) (b : Plan Value) (j : Jump) (l : Locals) (n : ℕ) → Ok t K → turn (Jumps j (record { locals = l; answers = []; n = n })) ≡ Next p → answer K.world i p ≡ Some (w, a)
      → ((xs : List Answer) → b xs ≡ Jumps j (record { locals = l; answers = xs; n = n })) → StepOn K p w a b
  jump_on K p w a b (Throws v) l n ok e r h = end_on K p w a b _ ok (next_is _ p e) r (λ xs. ap turn (h (a ∷ xs)))
  jump_on K p w a b (Returns v) l n ok e r h = end_on K p w a b _ ok (next_is _ p e) r (λ xs. ap turn (h (a ∷ xs)))
  jump_on K p w a b (Exits x) l n ok e r h = end_on K p w a b _ ok (next_is _ p e) r (λ xs. ap turn (h (a ∷ xs)))

  pub step_on : (K K' : Known) (b : Plan Value) → Going K b → Between i K K' → Ok t K' → (p : Step) → turn (b []) ≡ Next p → (w : World) (a : Answer) → answer K'.world i p ≡ Some (w, a) → StepOn K' p w a b
  step_on K K' b (going (asks q grow e fine moves rest)) le ok p h w a r =
      let same : q ≡ p = next_is q p (sym (ap turn e) ∙ h) in
      let r' : answer K'.world i q ≡ Some (w, a) = ap (answer K'.world i) same ∙ r in
      record { grow = grow; moved = moves K' le ok w a r'; no_start = λ v x. fine.1 v (same ∙ x); on = going (rest K' le ok w a r') }
  step_on K K' b (going (is_busy e)) le ok p h w a r = let no : IsBusy ≡ Next p = sym (ap turn (e [])) ∙ h in cc
  step_on K K' b (going (gives x l n e q)) le ok p h w a r = end_on K' p w a b _ ok (next_is _ p (sym (ap turn (e [])) ∙ h)) r (λ xs. ap turn (e (a ∷ xs)))
  step_on K K' b (going (jumps j l n e q)) le ok p h w a r = jump_on K' p w a b j l n ok (sym (ap turn (e [])) ∙ h) r e
  step_on K K' b (over e) le ok p h w a r = let no : Ended ≡ Next p = sym (e []) ∙ h in cc

  pub same_going : {K : Known} {b b' : Plan Value} → ((xs : List Answer) → b xs ≡ b' xs) → Going K b → Going K b'
  same_going e (going h) = going (same_safe t i e h)
  same_going e (over h) = over (λ xs. ap turn (sym (e xs)) ∙ h xs)

-- ---- the schedule

with_new_same : (w : World) (p : Step) (a : Answer) (ts : List Thread) → ((v : Value) → p ≢ values.Start v) → with_new w p a ts ≡ ts
with_new_same w (values.Start x) a ts h = absurd (h x refl)
with_new_same w (Touch class) a ts h = refl
with_new_same w (InitEnd class well) a ts h = refl
with_new_same w (Alloc shape) a ts h = refl
with_new_same w (Built x) a ts h = refl
with_new_same w (Get x f) a ts h = refl
with_new_same w (Put x f y) a ts h = refl
with_new_same w (GetStatic f) a ts h = refl
with_new_same w (PutStatic f y) a ts h = refl
with_new_same w (GetElem x k) a ts h = refl
with_new_same w (PutElem x k y) a ts h = refl
with_new_same w (Enter x) a ts h = refl
with_new_same w (Exit x) a ts h = refl
with_new_same w (Print units) a ts h = refl
with_new_same w ReadByte a ts h = refl
with_new_same w (Lib row vs) a ts h = refl
with_new_same w (Raise class) a ts h = refl
with_new_same w (Join x) a ts h = refl
with_new_same w (End ending) a ts h = refl
with_new_same w Torn a ts h = refl

data SetTo (ts : List Thread) (i : ℕ) (x : Thread) (j : ℕ) (y : Thread) : Type 0 where
  this_one : i ≡ j → x ≡ y → SetTo ts i x j y
  another : (i ≡ j → ⊥) → slice_get ts j ≡ Some y → SetTo ts i x j y

set_next : (z : Thread) (ts : List Thread) (i : ℕ) (x : Thread) (j : ℕ) (y : Thread) → SetTo ts i x j y → SetTo (z ∷ ts) (suc i) x (suc j) y
set_next z ts i x j y (this_one e h) = this_one (ap suc e) h
set_next z ts i x j y (another e h) = another (λ s. e (omega arith)) h

set_to : (ts : List Thread) (i : ℕ) (x : Thread) (j : ℕ) (y : Thread) → slice_get (slice_set ts i x) j ≡ Some y → SetTo ts i x j y
set_to [] i x j y e = cc
set_to (z ∷ ts) zero x zero y e = this_one refl (cc)
set_to (z ∷ ts) zero x (suc j) y e = another (λ s. omega arith) e
set_to (z ∷ ts) (suc i) x zero y e = another (λ s. omega arith) e
set_to (z ∷ ts) (suc i) x (suc j) y e = set_next z ts i x j y (set_to ts i x j y e)

append_nil : (xs : List Answer) → xs ++ [] ≡ xs
append_nil [] = refl
append_nil (x ∷ xs) = ap (λ ys. x ∷ ys) (append_nil xs)

append_more : (xs : List Answer) (a : Answer) (ys : List Answer) → (xs ++ a ∷ []) ++ ys ≡ xs ++ a ∷ ys
append_more [] a ys = refl
append_more (x ∷ xs) a ys = ap (λ zs. x ∷ zs) (append_more xs a ys)

module _ (t : Table) (program : Program) (typed : TypedProgram t program) (d n : ℕ) where
  abbrev next : Behavior
  next = thread_at program d

  abbrev plan : Thread → Plan Value
  plan thread xs = thread_from program (bodies program d) thread.start (record { locals = []; answers = thread.had ++ xs; n = n })

  record ThreadOk (K : Known) (i : ℕ) (thread : Thread) : Type 0 where
    then_known : Known
    between : Between i then_known K
    on : Going t i then_known (plan thread)

  -- The invariant of a run: the world is Ok, and each thread is safe from a world that it knew, since when its own classes stay.
  record Invariant (w : World) (ts : List Thread) : Type 0 where
    shapes : List Made
    ok : Ok t (record { shapes = shapes; world = w })
    threads : (i : ℕ) (thread : Thread) → slice_get ts i ≡ Some thread → ThreadOk (record { shapes = shapes; world = w }) i thread

  now : (thread : Thread) → turn (plan thread []) ≡ next thread.start thread.had n
  now thread = ap (λ xs. turn (thread_from program (bodies program d) thread.start (record { locals = []; answers = xs; n = n }))) (append_nil thread.had)

  never_now : (w : World) (ts : List Thread) → Invariant w ts → (i : ℕ) (thread : Thread) → slice_get ts i ≡ Some thread → next thread.start thread.had n ≢ Next Torn
  never_now w ts inv i thread e h = let ok : ThreadOk (record { shapes = inv.shapes; world = w }) i thread = inv.threads i thread e in turn_fine t i ok.then_known (plan thread) ok.on (now thread ∙ h)

  after_step : (w : World) (ts : List Thread) (i : ℕ) (thread : Thread) (p : Step) (w' : World) (a : Answer) (inv : Invariant w ts) → slice_get ts i ≡ Some thread → answer w i p ≡ Some (w', a)
      → StepOn t i (record { shapes = inv.shapes; world = w }) p w' a (plan thread) → Invariant w' (slice_set ts i (record thread { had = thread.had ++ a ∷ [] }))
  after_step w ts i thread p w' a inv e r s = record {
    shapes = s.grow inv.shapes;
    ok = s.moved.ok;
    threads = λ j other h. thread_after j other (set_to ts i _ j other h);
  } where
    thread_after : (j : ℕ) (other : Thread) → SetTo ts i (record thread { had = thread.had ++ a ∷ [] }) j other → ThreadOk (record { shapes = s.grow inv.shapes; world = w' }) j other
    thread_after j other (this_one e h) = subst (λ (x : Thread). ThreadOk (record { shapes = s.grow inv.shapes; world = w' }) j x) h (subst (λ (j : ℕ). ThreadOk (record { shapes = s.grow inv.shapes; world = w' }) j (record thread { had = thread.had ++ a ∷ [] })) e
        (record {
          then_known = record { shapes = s.grow inv.shapes; world = w' };
          between = between_self i _;
          on = same_going t i (λ xs. ap (λ ys. thread_from program (bodies program d) thread.start (record { locals = []; answers = ys; n = n })) (sym (append_more thread.had a xs))) s.on;
        }))
    thread_after j other (another differs h) =
        let old : ThreadOk (record { shapes = inv.shapes; world = w }) j other = inv.threads j other h in
        record {
          then_known = old.then_known;
          between = between_on old.between (record { later = s.moved.later; mine = λ class. others_mine t i w w' a j (ne_eqb i j differs) p r class });
          on = old.on;
        }

  reply_kept : (w : World) (ts : List Thread) (i : ℕ) (thread : Thread) (p : Step) (r : Reply) → Invariant w ts → slice_get ts i ≡ Some thread → next thread.start thread.had n ≡ Next p → answer w i p ≡ r → Invariant (replied w ts i thread p r).world (replied w ts i thread p r).threads
  reply_kept w ts i thread p None inv e h r = inv
  reply_kept w ts i thread p (Some x) inv e h r =
      let ok : ThreadOk (record { shapes = inv.shapes; world = w }) i thread = inv.threads i thread e in
      let s : StepOn t i (record { shapes = inv.shapes; world = w }) p x.0 x.1 (plan thread) = step_on t i ok.then_known (record { shapes = inv.shapes; world = w }) (plan thread) ok.on ok.between inv.ok p (now thread ∙ h) x.0 x.1 r in
      subst (λ (ts' : List Thread). Invariant x.0 ts') (sym (with_new_same w p x.1 _ s.no_start)) (after_step w ts i thread p x.0 x.1 inv e r s)

  turn_kept : (w : World) (ts : List Thread) (i : ℕ) (thread : Thread) (u : Turn) → Invariant w ts → slice_get ts i ≡ Some thread → next thread.start thread.had n ≡ u → Invariant (turned w ts i thread u).world (turned w ts i thread u).threads
  turn_kept w ts i thread (Next p) inv e h = reply_kept w ts i thread p (answer w i p) inv e h refl
  turn_kept w ts i thread IsBusy inv e h = inv
  turn_kept w ts i thread Ended inv e h = inv

  turn_of_kept : (w : World) (ts : List Thread) (i : ℕ) (o : Option Thread) → slice_get ts i ≡ o → Invariant w ts → Invariant (turn_of next n w ts i o).world (turn_of next n w ts i o).threads
  turn_of_kept w ts i None e inv = inv
  turn_of_kept w ts i (Some thread) e inv = turn_kept w ts i thread (next thread.start thread.had n) inv e refl

  first_free : (i : ℕ) (w : World) → w.classes ≡ [] → FreeIn t i w.classes
  first_free i w e class calm = ap (λ (cs : List (ClassName × ClassState)). is_mine i (state_of cs class)) e

  first_thread : (K : Known) → K.world.classes ≡ [] → (i : ℕ) (thread : Thread) → EntersWell t K thread.start → thread.had ≡ [] → ThreadOk K i thread
  first_thread K none i thread enters had = record {
    then_known = K;
    between = between_self i K;
    on = same_going t i (λ xs. ap (λ (hs : List Answer). thread_from program (bodies program d) thread.start (record { locals = []; answers = hs ++ xs; n = n })) (sym had))
        (going (thread_sound t i program typed d thread.start K enters n (first_free i K.world none)).by);
  }

  first_threads : (K : Known) → K.world.classes ≡ [] → (ts : List Thread) → AllEnter t K ts → (i k : ℕ) (thread : Thread) → slice_get ts k ≡ Some thread → ThreadOk K i thread
  first_threads K none [] h i k thread e = cc
  first_threads K none (u ∷ ts) h i zero thread e = let same : u ≡ thread = cc in subst (λ (x : Thread). ThreadOk K i x) same (first_thread K none i u h.0 h.1)
  first_threads K none (u ∷ ts) h i (suc k) thread e = first_threads K none ts h.2 i k thread e

  never_torn : (K : Known) → Ok t K → K.world.classes ≡ [] → (ts : List Thread) → AllEnter t K ts → (schedule : List ℕ) → NeverTorn (run next n K.world ts schedule)
  never_torn K ok none ts enter schedule = run_never_torn next n Invariant never_now (record { kept = λ w ts i inv. turn_of_kept w ts i (slice_get ts i) refl inv }) K.world ts
      (record { shapes = K.shapes; ok = ok; threads = λ i thread e. first_threads K none ts enter i i thread e }) schedule

-- ---- a depth that is never used up

-- each thread had at most so many answers
abbrev pub AllHad : ℕ → List Thread → Type 0
AllHad k [] = Unit {0}
AllHad k (t ∷ ts) = (length t.had ≤ k) × AllHad k ts

had_more : (k m : ℕ) → k ≤ m → (ts : List Thread) → AllHad k ts → AllHad m ts
had_more k m le [] h = tt
had_more k m le (t ∷ ts) h = (omega (arith, h.0), had_more k m le ts h.1)

had_at : (k : ℕ) (ts : List Thread) → AllHad k ts → (i : ℕ) (t : Thread) → slice_get ts i ≡ Some t → length t.had ≤ k
had_at k [] h i t e = cc
had_at k (u ∷ ts) h zero t e = let same : u ≡ t = cc in subst (λ (x : Thread). length x.had ≤ k) same h.0
had_at k (u ∷ ts) h (suc i) t e = had_at k ts h.1 i t e

had_set : (k : ℕ) (ts : List Thread) → AllHad k ts → (i : ℕ) (t : Thread) → length t.had ≤ k → AllHad k (slice_set ts i t)
had_set k [] h i t le = tt
had_set k (u ∷ ts) h zero t le = (le, h.1)
had_set k (u ∷ ts) h (suc i) t le = (h.0, had_set k ts h.1 i t le)

had_snoc : (k : ℕ) (ts : List Thread) → AllHad k ts → (t : Thread) → length t.had ≤ k → AllHad k (ts ++ t ∷ [])
had_snoc k [] h t le = (le, tt)
had_snoc k (u ∷ ts) h t le = (h.0, had_snoc k ts h.1 t le)

had_begun : (k : ℕ) (w : World) (v : Value) (a : Answer) (ts : List Thread) → AllHad k ts → AllHad k (begun w v a ts)
had_begun k w v Done ts h = had_snoc k ts h _ (omega arith)
had_begun k w v Ready ts h = h
had_begun k w v Run ts h = h
had_begun k w v Mine ts h = h
had_begun k w v Failed ts h = h
had_begun k w v (Given x) ts h = h
had_begun k w v (Raised x) ts h = h

had_new : (k : ℕ) (w : World) (p : Step) (a : Answer) (ts : List Thread) → AllHad k ts → AllHad k (with_new w p a ts)
had_new k w (values.Start v) a ts h = had_begun k w v a ts h
had_new k w (Touch class) a ts h = h
had_new k w (InitEnd class well) a ts h = h
had_new k w (Alloc shape) a ts h = h
had_new k w (Built x) a ts h = h
had_new k w (Get x f) a ts h = h
had_new k w (Put x f y) a ts h = h
had_new k w (GetStatic f) a ts h = h
had_new k w (PutStatic f y) a ts h = h
had_new k w (GetElem x j) a ts h = h
had_new k w (PutElem x j y) a ts h = h
had_new k w (Enter x) a ts h = h
had_new k w (Exit x) a ts h = h
had_new k w (Print units) a ts h = h
had_new k w ReadByte a ts h = h
had_new k w (Lib row vs) a ts h = h
had_new k w (Raise class) a ts h = h
had_new k w (Join x) a ts h = h
had_new k w (End ending) a ts h = h
had_new k w Torn a ts h = h

had_replied : (k : ℕ) (w : World) (ts : List Thread) (i : ℕ) (t : Thread) (p : Step) (r : Reply) → AllHad k ts → length t.had ≤ k → AllHad (suc k) (replied w ts i t p r).threads
had_replied k w ts i t p None h le = had_more k (suc k) (omega arith) ts h
had_replied k w ts i t p (Some r) h le =
    let longer : length (t.had ++ r.1 ∷ []) ≡ suc (length t.had) = length_snoc t.had r.1 in
    had_new (suc k) w p r.1 _ (had_set (suc k) ts (had_more k (suc k) (omega arith) ts h) i _ (omega (arith, longer)))

had_turned : (k : ℕ) (w : World) (ts : List Thread) (i : ℕ) (t : Thread) (u : Turn) → AllHad k ts → length t.had ≤ k → AllHad (suc k) (turned w ts i t u).threads
had_turned k w ts i t (Next p) h le = had_replied k w ts i t p (answer w i p) h le
had_turned k w ts i t IsBusy h le = had_more k (suc k) (omega arith) ts h
had_turned k w ts i t Ended h le = had_more k (suc k) (omega arith) ts h

had_turn : (next : Behavior) (n k : ℕ) (w : World) (ts : List Thread) (i : ℕ) (o : Option Thread) → slice_get ts i ≡ o → AllHad k ts → AllHad (suc k) (turn_of next n w ts i o).threads
had_turn next n k w ts i None e h = had_more k (suc k) (omega arith) ts h
had_turn next n k w ts i (Some t) e h = had_turned k w ts i t (next t.start t.had n) h (had_at k ts h i t e)

module _ (program : Program) (same : SameAtEveryDepth program) (d n : ℕ) where
  same_turn : (k : ℕ) (w : World) (ts : List Thread) (i : ℕ) (o : Option Thread) → slice_get ts i ≡ o → AllHad k ts → n + k ≤ d → turn_of (thread program) n w ts i o ≡ turn_of (thread_at program d) n w ts i o
  same_turn k w ts i None e h le = refl
  same_turn k w ts i (Some t) e h le =
      let short : length t.had ≤ k = had_at k ts h i t e in
      ap (turned w ts i t) (sym (same t.start t.had n d (omega (arith, short, le))))

  pub deep_enough : (k : ℕ) (w : World) (ts : List Thread) (schedule : List ℕ) → AllHad k ts → n + k + length schedule ≤ d → run (thread program) n w ts schedule ≡ run (thread_at program d) n w ts schedule
  deep_enough k w ts [] h le = refl
  deep_enough k w ts (i ∷ schedule) h le =
      let short : n + k ≤ d = omega (arith, le) in
      let rest : n + suc k + length schedule ≤ d = omega (arith, le) in
      let turn : After = turn_of (thread program) n w ts i (slice_get ts i) in
      let other : After = turn_of (thread_at program d) n w ts i (slice_get ts i) in
      ap (λ items. turn.item ∷ items) (deep_enough (suc k) turn.world turn.threads schedule (had_turn (thread program) n k w ts i (slice_get ts i) refl h) rest)
      ∙ ap (λ (a : After). a.item ∷ run (thread_at program d) n a.world a.threads schedule) (same_turn k w ts i (slice_get ts i) refl h short)

none_had : (t : Table) (K : Known) (ts : List Thread) → AllEnter t K ts → AllHad 0 ts
none_had t K [] h = tt
none_had t K (u ∷ ts) h = (subst (λ (xs : List Answer). length xs ≤ 0) (sym h.1) (omega arith), none_had t K ts h.2)

pub never_torn_where_typed : NeverTornWhereTyped
never_torn_where_typed t program typed K ok none ts enter = record {
  at_depth = λ d n schedule. never_torn t program typed d n K ok none ts enter schedule;
  whole = λ same n schedule.
      subst NeverTorn (sym (deep_enough program same (n + 0 + length schedule) n 0 K.world ts schedule (none_had t K ts enter) (omega arith)))
      (never_torn t program typed (n + 0 + length schedule) n K ok none ts enter schedule);
}
