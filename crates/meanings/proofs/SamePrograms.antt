-- One thread: where the texts of two programs do the same, so do their threads, unless Torn is asked.
use Rattle.std.proofs.Common.{◌≡◌, ◌≢◌, ℕ, zero, suc, ◌+◌, Bool, true, false, not, List, [], ◌∷◌, ◌++◌, length, refl, sym, ap, subst, if◌then◌else◌}
use Rattle.meanings.specs.Values.{Name, ClassName, same_class, Site, same_site, Value, Null, Boolean, Integer, Units, Class, Companion, Object, Array, Lambda, Torn, End, Result, Uncaught, Answer}
use Rattle.meanings.specs.Outcome.{Outcome, Meaning, ◌>>◌, pay, assign_all}
use Rattle.meanings.specs.Machine.{Bodies, apart}
use Rattle.meanings.specs.Program.{Program, Body, Initializer, Start, Enters, Runs, Next, at_end, turn, place, outside, enter, begin, bodies, thread_from, thread, run_site}
use Rattle.meanings.specs.Same.{no_exits, Kept, Exiting, Same, asks, busy, gives, exits, returns, throws, torn, unreached, SameMeaning, SameBodies, SamePlace, none_kept, AllOld, SameBody, SameTexts, no_texts, a_text, SameInitializers, no_initializers, an_initializer, SameProgram, SameThreadsOf}
use Rattle.meanings.proofs.SameLaws.{no_stand, step_same, pure_same, pay_same, busy_same, torn_same, assign_same, apart_same, touch_same, call_same, call_on_same}

assign_all_same : {kept : Kept} {x : Exiting kept} (ys : List Name) (vs : List Value) → AllOld ys → SameMeaning kept x (assign_all ys vs) (assign_all ys vs)
assign_all_same [] vs old = pure_same tt
assign_all_same (y ∷ ys) [] old = pure_same tt
assign_all_same (y ∷ ys) (v ∷ vs) old = step_same (assign_same y v old.0) (assign_all_same ys vs old.1)

apart_if : {kept : Kept} {x : Exiting kept} (b : Bool) (m n m' n' : Meaning (Unit {0})) → SameMeaning kept x (apart m) (apart n) → SameMeaning kept x (apart m') (apart n') → SameMeaning kept x (apart (if b then m else m')) (apart (if b then n else n'))
apart_if true m n m' n' h h' = h
apart_if false m n m' n' h h' = h'

module _ (k j : Program) (same : SameProgram k j) where
  place_same : {b b' : Bodies} → SameBodies b b' → (class : ClassName) → SamePlace (place k b class) (place j b' class)
  place_same h class = record { bodies = h; touches = same.touches class; resolves = same.resolves; classes = same.classes }

  outside_same : {b b' : Bodies} → SameBodies b b' → SamePlace (outside k b) (outside j b')
  outside_same h = record { bodies = h; touches = λ class. ap not (same.is_idle class); resolves = same.resolves; classes = same.classes }

  module _ {b b' : Bodies} (h : SameBodies b b') {kept : Kept} {x : Exiting kept} where
    body_same : {t u : Body} → SameBody t u → (vs : List Value) → SameMeaning kept x (apart (pay >> (assign_all t.parameters vs >> t.text (place k b t.site.class)))) (apart (pay >> (assign_all u.parameters vs >> u.text (place j b' u.site.class))))
    body_same {t} {u} s vs =
        let text : SameMeaning none_kept no_exits (t.text (place k b t.site.class)) (u.text (place j b' u.site.class)) =
        s.text.at (subst (λ (c : Site). SamePlace (place k b t.site.class) (place j b' c.class)) s.site (place_same h t.site.class)) in
        subst (λ ys. SameMeaning kept x (apart (pay >> (assign_all ys vs >> t.text (place k b t.site.class)))) (apart (pay >> (assign_all u.parameters vs >> u.text (place j b' u.site.class))))) (sym s.parameters)
        (apart_same {kept' = none_kept} {x' = no_exits} (step_same pay_same (step_same (assign_all_same u.parameters vs s.old) text)))

    enter_same : {ts us : List Body} → SameTexts ts us → (site : Site) (vs : List Value) → SameMeaning kept x (apart (enter k b ts site vs)) (apart (enter j b' us site vs))
    enter_same no_texts site vs = apart_same {kept' = none_kept} {x' = no_exits} (step_same pay_same torn_same)
    enter_same (a_text {k = t} {j = u} {ks = ts} {js = us} s rest) site vs =
        subst (λ (c : Site). SameMeaning kept x (apart (enter k b (t ∷ ts) site vs)) (apart (if same_site c site then pay >> (assign_all u.parameters vs >> u.text (place j b' u.site.class)) else enter j b' us site vs))) s.site
        (apart_if (same_site t.site site) _ _ _ _ (body_same s vs) (enter_same rest site vs))

    begin_same : {ts us : List Initializer} → SameInitializers ts us → (class : ClassName) → SameMeaning kept x (apart (begin k b ts class)) (apart (begin j b' us class))
    begin_same no_initializers class = apart_same {kept' = none_kept} {x' = no_exits} (pure_same tt)
    begin_same (an_initializer {k = t} {j = u} {ks = ts} {js = us} e text rest) class =
        subst (λ c. SameMeaning kept x (apart (begin k b (t ∷ ts) class)) (apart (if same_class c class then u.text (place j b' class) else begin j b' us class))) e
        (apart_if (same_class t.class class) _ _ _ _ (apart_same {kept' = none_kept} {x' = no_exits} (text.at (place_same h class))) (begin_same rest class))

  pub bodies_same : (d : ℕ) → SameBodies (bodies k d) (bodies j d)
  bodies_same zero = record {
    method = λ site vs kept x. apart_same {kept' = none_kept} {x' = no_exits} busy_same;
    constructor = λ site vs kept x. apart_same {kept' = none_kept} {x' = no_exits} busy_same;
    lambda = λ site us vs kept x. apart_same {kept' = none_kept} {x' = no_exits} busy_same;
    initializer = λ class kept x. apart_same {kept' = none_kept} {x' = no_exits} busy_same;
  }
  bodies_same (suc d) = record {
    method = λ site vs kept x. enter_same (bodies_same d) same.methods site vs;
    constructor = λ site vs kept x. enter_same (bodies_same d) same.constructors site vs;
    lambda = λ site us vs kept x. enter_same (bodies_same d) same.lambdas site (us ++ vs);
    initializer = λ class kept x. begin_same (bodies_same d) same.initializers class;
  }

  from_same : (d : ℕ) (start : Start) → SameMeaning none_kept no_exits (thread_from k (bodies k d) start) (thread_from j (bodies j d) start)
  from_same d (Enters site vs) = step_same (touch_same (outside_same (bodies_same d)) site.class) (call_same (outside_same (bodies_same d)) site vs)
  from_same d (Runs Null) = pure_same Null
  from_same d (Runs (Integer kind z)) = call_on_same (outside_same (bodies_same d)) run_site (Integer kind z) []
  from_same d (Runs (Boolean b)) = call_on_same (outside_same (bodies_same d)) run_site (Boolean b) []
  from_same d (Runs (Units units)) = call_on_same (outside_same (bodies_same d)) run_site (Units units) []
  from_same d (Runs (Class name)) = call_on_same (outside_same (bodies_same d)) run_site (Class name) []
  from_same d (Runs (Companion name)) = call_on_same (outside_same (bodies_same d)) run_site (Companion name) []
  from_same d (Runs (Object class n captured)) = call_on_same (outside_same (bodies_same d)) run_site (Object class n captured) []
  from_same d (Runs (Array elements size n)) = call_on_same (outside_same (bodies_same d)) run_site (Array elements size n) []
  from_same d (Runs (Lambda own n captured)) = call_on_same (outside_same (bodies_same d)) run_site (Lambda own n captured) []

  turn_same : {o p : Outcome Value} {l : _} → Same none_kept no_exits l o p → (turn o ≡ Next Torn → ⊥) → (turn p ≡ Next Torn → ⊥) → turn o ≡ turn p
  turn_same (asks q) f g = refl
  turn_same busy f g = refl
  turn_same (gives v al h) f g = ap (λ xs. at_end xs (End (Result v))) al.answers
  turn_same (exits al c) f g = absurd (no_stand c)
  turn_same (returns v al h) f g = ap (λ xs. at_end xs (End (Result v))) al.answers
  turn_same (throws v al h) f g = ap (λ xs. at_end xs (End (Uncaught v))) al.answers
  turn_same (torn o) f g = absurd (f refl)
  turn_same (unreached o) f g = absurd (g refl)

  -- the threads' next steps are equal, unless one asks Torn
  program_same : (start : Start) (answers : List Answer) (n : ℕ) → thread k start answers n ≢ Next Torn → thread j start answers n ≢ Next Torn → thread k start answers n ≡ thread j start answers n
  program_same start answers n f g = turn_same ((from_same (n + length answers) start).by (record { answers = refl; n = refl; locals = λ y old. refl })) f g

pub programs_same : SameThreadsOf
programs_same = program_same
