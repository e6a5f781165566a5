-- The machine's own parts are sound.
use Rattle.std.proofs.Common.{◌≡◌, ℕ, Bool, true, false, List, [], ◌∷◌, ◌++◌, Option, Some, None, refl, sym, ◌∙◌, ap, subst, ◌==◌, if◌then◌else◌}
use Rattle.meanings.specs.Values.{Name, ClassName, Simple, same_class, Value, Null, Step, Touch, InitEnd, Raise, Answer, Ready, Run, Mine, Failed, Done, Given, Raised}
use Rattle.meanings.specs.Outcome.{Locals, Jump, Exits, Returns, Throws, ask}
use Rattle.meanings.specs.Machine.{received, ask_value, ask_done, raise}
use Rattle.meanings.specs.World.{World, ClassState, Untouched, Running, IsReady, IsFailed, state_of, answer, touch_answer, ended_class, exception_content}
use Rattle.meanings.specs.Tables.{Table, Made, AnInstance, Known, is_mine, Later, Between, Ok, Moved}
use Rattle.meanings.specs.Safety.{Fine, with_made, Sound, Settled, FreeIn, FreeButIn}
use Rattle.meanings.proofs.SameValues.{same_class_true}
use Rattle.meanings.proofs.KnownLaws.{later_on}
use Rattle.meanings.proofs.WorldLaws.{FreshArray, same_shapes, made_moved, classes_moved, stays_moved}
use Rattle.meanings.proofs.SafeLaws.{bind_sound, pure_sound, jump_sound, ask_sound}

abbrev pub as_it_was : List Made → List Made
as_it_was s = s

abbrev pub one_made : Made → List Made → List Made
one_made m s = s ++ m ∷ []

module _ (t : Table) (i : ℕ) where
  abbrev pub Base : Bool → ClassName → Known → Type 0
  Base false own K = FreeIn t i K.world.classes × Settled t i K own
  Base true own K = FreeButIn t i own K.world.classes

  pub settled_later : {K K' : Known} (own : ClassName) → Later K K' → Settled t i K own → Settled t i K' own
  settled_later own le h f e = le.statics f (h f e)

  -- what stays known while the classes stay as this thread knows them
  pub record Lasting (B : Known → Type 0) : Type 0 where
    pub kept : {K K' K'' : Known} → Between i K K' → Later K' K'' → K''.world.classes ≡ K'.world.classes → B K → B K''

  free_kept : {K K' K'' : Known} → Between i K K' → Later K' K'' → K''.world.classes ≡ K'.world.classes → FreeIn t i K.world.classes → FreeIn t i K''.world.classes
  free_kept le le' e h class calm = subst (λ (cs : List (ClassName × ClassState)). is_mine i (state_of cs class) ≡ false) (sym e) (sym (le.mine class) ∙ h class calm)

  pub free_lasting : Lasting (λ K. FreeIn t i K.world.classes)
  free_lasting = record { kept = free_kept }

  base_kept : (s : Bool) (own : ClassName) {K K' K'' : Known} → Between i K K' → Later K' K'' → K''.world.classes ≡ K'.world.classes → Base s own K → Base s own K''
  base_kept false own le le' e h = (free_kept le le' e h.0, settled_later own (later_on le.later le') h.1)
  base_kept true own le le' e h =
      λ class differs calm. subst (λ (cs : List (ClassName × ClassState)). is_mine i (state_of cs class) ≡ false) (sym e) (sym (le.mine class) ∙ h class differs calm)

  pub base_lasting : (s : Bool) (own : ClassName) → Lasting (Base s own)
  base_lasting s own = record { kept = base_kept s own }

  -- an exception may end a part; nothing else does
  abbrev pub Thrown : (Known → Type 0) → Known → Jump → Locals → Type 0
  Thrown B K (Throws v) l = B K
  Thrown B K (Returns v) l = ⊥
  Thrown B K (Exits e) l = ⊥

  -- a value with a fact, among the same locals
  abbrev pub Left : {A : Type 0} → (Known → Type 0) → Locals → (Known → A → Type 0) → Known → A → Locals → Type 0
  Left B l R K a l' = (l' ≡ l) × B K × R K a

  -- what an answer says, where the classes stay
  pub record Answers (p : Step) (grow : List Made → List Made) (K : Known) (R : Known → Answer → Type 0) : Type 0 where
    pub fine : Fine p
    pub moved : (K' : Known) → Between i K K' → Ok t K' → (w : World) (a : Answer) → answer K'.world i p ≡ Some (w, a) → Moved t K' (with_made K' grow w)
    pub classes : (K' : Known) → Between i K K' → Ok t K' → (w : World) (a : Answer) → answer K'.world i p ≡ Some (w, a) → w.classes ≡ K'.world.classes
    pub says : (K' : Known) → Between i K K' → Ok t K' → (w : World) (a : Answer) → answer K'.world i p ≡ Some (w, a) → R (with_made K' grow w) a

  module _ (B : Known → Type 0) (lasting : Lasting B) where
    pub plain_ask : {R : Known → Answer → Type 0} {K : Known} (l : Locals) (n : ℕ) (p : Step) (grow : List Made → List Made) → Answers p grow K R → B K
        → Sound t i (Left B l R) (Thrown B) K (ask p) l n
    plain_ask l n p grow h base = ask_sound t i p grow h.fine (λ K' le ok w a r.
        let m : Moved t K' (with_made K' grow w) = h.moved K' le ok w a r in
        (m, (refl, lasting.kept le m.later (h.classes K' le ok w a r) base, h.says K' le ok w a r)))

    -- the value of an answer, or a thrown one
    abbrev pub OfValue : (Known → Value → Type 0) → Known → Answer → Type 0
    OfValue R K (Given v) = R K v
    OfValue R K (Raised v) = Unit {0}
    OfValue R K _ = R K Null

    received_sound : {R : Known → Value → Type 0} {K : Known} (l l' : Locals) (n : ℕ) (a : Answer) → l' ≡ l → B K → OfValue R K a → Sound t i (Left B l R) (Thrown B) K (received a) l' n
    received_sound l l' n (Given v) e base h = pure_sound t i (e, base, h)
    received_sound l l' n (Raised v) e base h = jump_sound t i base
    received_sound l l' n Ready e base h = pure_sound t i (e, base, h)
    received_sound l l' n Run e base h = pure_sound t i (e, base, h)
    received_sound l l' n Mine e base h = pure_sound t i (e, base, h)
    received_sound l l' n Failed e base h = pure_sound t i (e, base, h)
    received_sound l l' n Done e base h = pure_sound t i (e, base, h)

    pub value_sound : {R : Known → Value → Type 0} {K : Known} (l : Locals) (n : ℕ) (p : Step) (grow : List Made → List Made) → Answers p grow K (OfValue R) → B K
        → Sound t i (Left B l R) (Thrown B) K (ask_value p) l n
    value_sound {R = R} l n p grow h base = bind_sound t i (plain_ask {R = OfValue R} l n p grow h base) (λ K' a l' n' le q. received_sound l l' n' a q.0 q.1 q.2)

    pub done_sound : {R : Known → Value → Type 0} {K : Known} (l : Locals) (n : ℕ) (p : Step) (grow : List Made → List Made) → Answers p grow K (OfValue R) → B K
        → Sound t i (Left B l (λ K' u. (v : Value) × R K' v)) (Thrown B) K (ask_done p) l n
    done_sound {R = R} l n p grow h base = bind_sound t i (value_sound {R = R} l n p grow h base) (λ K' v l' n' le q. pure_sound t i (q.0, q.1, (v, q.2)))

  -- ---- exceptions

  made_instance : (class : ClassName) (K : Known) → FreshArray t K (AnInstance class) exception_content
  made_instance class K = record { by = λ type size e. cc }

  abbrev pub reply : World → Answer → Option (World × Answer)
  reply w a = Some (w, a)

  abbrev world_in : World → Option (World × Answer) → World
  world_in w (Some r) = r.0
  world_in w None = w

  abbrev answer_in : Answer → Option (World × Answer) → Answer
  answer_in a (Some r) = r.1
  answer_in a None = a

  world_is : (w w' : World) (a a' : Answer) → reply w a ≡ reply w' a' → w ≡ w'
  world_is w w' a a' e = ap (world_in w) e

  answer_is : (w w' : World) (a a' : Answer) → reply w a ≡ reply w' a' → a ≡ a'
  answer_is w w' a a' e = ap (answer_in a) e

  pub reply_is : {w w' : World} {a a' : Answer} → reply w a ≡ reply w' a' → (w ≡ w') × (a ≡ a')
  reply_is {w} {w'} {a} {a'} e = (world_is w w' a a' e, answer_is w w' a a' e)

  pub raise_sound : (B : Known → Type 0) → Lasting B → {A : Type 0} {Q : Known → A → Locals → Type 0} {K : Known} (l : Locals) (n : ℕ) (class : Name) → B K → Sound t i Q (Thrown B) K (raise {A = A} class) l n
  raise_sound B lasting l n class base = bind_sound t i (value_sound B lasting {R = λ K' v. Unit {0}} l n (Raise class) (one_made (AnInstance (Simple class))) (record {
    fine = (λ e. cc, λ v e. cc);
    moved = λ K' le ok w a r. subst (λ (w : World). Moved t K' (with_made K' (one_made (AnInstance (Simple class))) w)) (reply_is r).0 (made_moved t K' (AnInstance (Simple class)) exception_content refl ok (made_instance (Simple class) K'));
    classes = λ K' le ok w a r. ap (λ (w : World). w.classes) (sym (reply_is r).0);
    says = λ K' le ok w a r. subst (λ (a : Answer). OfValue B lasting (λ K' v. Unit {0}) (with_made K' (one_made (AnInstance (Simple class))) w) a) (reply_is r).1 tt;
  }) base) (λ K' v l' n' le q. jump_sound t i q.1)

  -- ---- classes

  -- what each answer to a Touch says
  abbrev pub TouchSays : ClassName → Known → Answer → Type 0
  TouchSays class K Run = FreeButIn t i class K.world.classes
  TouchSays class K Mine = FreeIn t i K.world.classes × (t.calm class ≡ true → ⊥)
  TouchSays class K Ready = FreeIn t i K.world.classes × Settled t i K class
  TouchSays class K Failed = FreeIn t i K.world.classes
  TouchSays class K Done = ⊥
  TouchSays class K (Given v) = ⊥
  TouchSays class K (Raised v) = ⊥

  free_between : {K K' : Known} → Between i K K' → FreeIn t i K.world.classes → FreeIn t i K'.world.classes
  free_between le h class calm = sym (le.mine class) ∙ h class calm

  free_but_between : {K K' : Known} (own : ClassName) → Between i K K' → FreeButIn t i own K.world.classes → FreeButIn t i own K'.world.classes
  free_but_between own le h class differs calm = sym (le.mine class) ∙ h class differs calm

  newest : (own class : ClassName) (b : Bool) → same_class own class ≡ b → (new : ClassState) (classes : List (ClassName × ClassState)) → (if b then new else state_of classes class) ≡ state_of ((own, new) ∷ classes) class
  newest own class b e new classes = ap (λ (b : Bool). if b then new else state_of classes class) (sym e)

  -- the state of a class after a new one
  pub data NewestAt (own : ClassName) (new : ClassState) (classes : List (ClassName × ClassState)) (class : ClassName) : Type 0 where
    own_state : own ≡ class → same_class own class ≡ true → state_of ((own, new) ∷ classes) class ≡ new → NewestAt own new classes class
    other_state : same_class own class ≡ false → state_of ((own, new) ∷ classes) class ≡ state_of classes class → NewestAt own new classes class

  pub newest_at : (own : ClassName) (new : ClassState) (classes : List (ClassName × ClassState)) (class : ClassName) (b : Bool) → same_class own class ≡ b → NewestAt own new classes class
  newest_at own new classes class true e = own_state (same_class_true own class e) e (sym (newest own class true e new classes))
  newest_at own new classes class false e = other_state e (sym (newest own class false e new classes))

  touch_run : (K : Known) (class : ClassName) → Ok t K → (d : ClassName) → NewestAt class (Running i) K.world.classes d → state_of ((class, Running i) ∷ K.world.classes) d ≡ IsReady → Settled t i K d
  touch_run K class ok d (own_state e s h) r = cc
  touch_run K class ok d (other_state e h) r = ok.ready d (sym h ∙ r)

  run_free : (class : ClassName) (classes : List (ClassName × ClassState)) → FreeIn t i classes → (d : ClassName) → NewestAt class (Running i) classes d → same_class class d ≡ false → t.calm d ≡ true → is_mine i (state_of ((class, Running i) ∷ classes) d) ≡ false
  run_free class classes free d (own_state e s h) differs calm = cc
  run_free class classes free d (other_state e h) differs calm = ap (is_mine i) h ∙ free d calm

  -- a Touch, by the state of the class
  pub record TouchDone (K' : Known) (class : ClassName) (w : World) (a : Answer) : Type 0 where
    pub moved : Moved t K' (same_shapes K' w)
    pub says : TouchSays class (same_shapes K' w) a

  touch_mine : (K' : Known) (class : ClassName) (w : World) (a : Answer) (owner : ℕ) (b : Bool) → Ok t K' → FreeIn t i K'.world.classes → state_of K'.world.classes class ≡ Running owner → (owner == i) ≡ b
      → (if b then reply K'.world Mine else None) ≡ reply w a → TouchDone K' class w a
  touch_mine K' class w a owner true ok free e m r =
      let same : K'.world ≡ w = (reply_is r).0 in
      subst (λ (w : World). TouchDone K' class w a) same (subst (λ (a : Answer). TouchDone K' class K'.world a) (reply_is r).1
      (record { moved = stays_moved t K' ok; says = (free, λ calm. let no : true ≡ false = sym m ∙ ap (is_mine i) (sym e) ∙ free class calm in cc) }))
  touch_mine K' class w a owner false ok free e m r = cc

  touch_done : (K' : Known) (class : ClassName) (w : World) (a : Answer) (s : ClassState) → Ok t K' → FreeIn t i K'.world.classes → state_of K'.world.classes class ≡ s → touch_answer K'.world i class s ≡ reply w a → TouchDone K' class w a
  touch_done K' class w a Untouched ok free e r =
      subst (λ (w : World). TouchDone K' class w a) (reply_is r).0 (subst (λ (a : Answer). TouchDone K' class (record K'.world { classes = (class, Running i) ∷ K'.world.classes }) a) (reply_is r).1
      (record {
        moved = classes_moved t K' ((class, Running i) ∷ K'.world.classes) ok (λ d h. touch_run K' class ok d (newest_at class (Running i) K'.world.classes d (same_class class d) refl) h);
        says = λ d differs calm. run_free class K'.world.classes free d (newest_at class (Running i) K'.world.classes d (same_class class d) refl) differs calm;
      }))
  touch_done K' class w a (Running owner) ok free e r = touch_mine K' class w a owner (owner == i) ok free e refl r
  touch_done K' class w a IsReady ok free e r =
      subst (λ (w : World). TouchDone K' class w a) (reply_is r).0 (subst (λ (a : Answer). TouchDone K' class K'.world a) (reply_is r).1
      (record { moved = stays_moved t K' ok; says = (free, ok.ready class e) }))
  touch_done K' class w a IsFailed ok free e r =
      subst (λ (w : World). TouchDone K' class w a) (reply_is r).0 (subst (λ (a : Answer). TouchDone K' class K'.world a) (reply_is r).1
      (record { moved = stays_moved t K' ok; says = free }))

  pub touch_asks : {J : Known → Jump → Locals → Type 0} {K : Known} (l : Locals) (n : ℕ) (class : ClassName) → FreeIn t i K.world.classes → Sound t i (λ K' a l'. (l' ≡ l) × TouchSays class K' a) J K (ask (Touch class)) l n
  touch_asks l n class free = ask_sound t i (Touch class) as_it_was (λ e. cc, λ v e. cc) (λ K' le ok w a r.
      let d : TouchDone K' class w a = touch_done K' class w a (state_of K'.world.classes class) ok (free_between le free) refl r in
      (d.moved, (refl, d.says)))

  -- the end of an initialization
  end_state : (class d : ClassName) (classes : List (ClassName × ClassState)) (new : ClassState) → is_mine i new ≡ false → FreeButIn t i class classes → NewestAt class new classes d → t.calm d ≡ true → is_mine i (state_of ((class, new) ∷ classes) d) ≡ false
  end_state class d classes new quiet free (own_state e s h) calm = ap (is_mine i) h ∙ quiet
  end_state class d classes new quiet free (other_state e h) calm = ap (is_mine i) h ∙ free d e calm

  same_state : (class d : ClassName) (classes : List (ClassName × ClassState)) (b : Bool) → same_class class d ≡ b → is_mine i (state_of classes class) ≡ false → FreeButIn t i class classes → t.calm d ≡ true → is_mine i (state_of classes d) ≡ false
  same_state class d classes true e quiet free calm = subst (λ (x : ClassName). is_mine i (state_of classes x) ≡ false) (same_class_true class d e) quiet
  same_state class d classes false e quiet free calm = free d e calm

  abbrev ended_as : Bool → ClassState
  ended_as well = if well then IsReady else IsFailed

  not_mine : (well : Bool) → is_mine i (ended_as well) ≡ false
  not_mine true = refl
  not_mine false = refl

  ended_mine : (class : ClassName) (classes : List (ClassName × ClassState)) (well : Bool) (owner : ℕ) (b : Bool) → (owner == i) ≡ b → state_of classes class ≡ Running owner → FreeButIn t i class classes
      → FreeIn t i (if b then (class, ended_as well) ∷ classes else classes)
  ended_mine class classes well owner true m e free d calm = end_state class d classes (ended_as well) (not_mine well) free (newest_at class (ended_as well) classes d (same_class class d) refl) calm
  ended_mine class classes well owner false m e free d calm = same_state class d classes (same_class class d) refl (ap (is_mine i) e ∙ m) free calm

  ended_free : (class : ClassName) (classes : List (ClassName × ClassState)) (well : Bool) (s : ClassState) → state_of classes class ≡ s → FreeButIn t i class classes → FreeIn t i (ended_class classes i class well s)
  ended_free class classes well Untouched e free d calm = same_state class d classes (same_class class d) refl (ap (is_mine i) e) free calm
  ended_free class classes well (Running owner) e free d calm = ended_mine class classes well owner (owner == i) refl e free d calm
  ended_free class classes well IsReady e free d calm = same_state class d classes (same_class class d) refl (ap (is_mine i) e) free calm
  ended_free class classes well IsFailed e free d calm = same_state class d classes (same_class class d) refl (ap (is_mine i) e) free calm

  ready_now : (K : Known) (class d : ClassName) (well : Bool) → Ok t K → (well ≡ true → Settled t i K class) → NewestAt class (ended_as well) K.world.classes d → state_of ((class, ended_as well) ∷ K.world.classes) d ≡ IsReady → Settled t i K d
  ready_now K class d true ok settled (own_state e s h) r = subst (Settled t i K) e (settled refl)
  ready_now K class d false ok settled (own_state e s h) r = cc
  ready_now K class d well ok settled (other_state e h) r = ok.ready d (sym h ∙ r)

  ended_ready_mine : (K : Known) (class : ClassName) (well : Bool) (b : Bool) → Ok t K → (well ≡ true → Settled t i K class) → (d : ClassName) → state_of (if b then (class, ended_as well) ∷ K.world.classes else K.world.classes) d ≡ IsReady → Settled t i K d
  ended_ready_mine K class well true ok settled d r = ready_now K class d well ok settled (newest_at class (ended_as well) K.world.classes d (same_class class d) refl) r
  ended_ready_mine K class well false ok settled d r = ok.ready d r

  ended_ready : (K : Known) (class : ClassName) (well : Bool) (s : ClassState) → Ok t K → (well ≡ true → Settled t i K class) → (d : ClassName) → state_of (ended_class K.world.classes i class well s) d ≡ IsReady → Settled t i K d
  ended_ready K class well Untouched ok settled d r = ok.ready d r
  ended_ready K class well (Running owner) ok settled d r = ended_ready_mine K class well (owner == i) ok settled d r
  ended_ready K class well IsReady ok settled d r = ok.ready d r
  ended_ready K class well IsFailed ok settled d r = ok.ready d r

  abbrev ended_world : Known → ClassName → Bool → World
  ended_world K class well = record K.world { classes = ended_class K.world.classes i class well (state_of K.world.classes class) }

  pub end_asks : {J : Known → Jump → Locals → Type 0} {K : Known} (l : Locals) (n : ℕ) (class : ClassName) (well : Bool) → FreeButIn t i class K.world.classes → (well ≡ true → Settled t i K class)
      → Sound t i (λ K' a l'. (l' ≡ l) × FreeIn t i K'.world.classes × (a ≡ Done)) J K (ask (InitEnd class well)) l n
  end_asks l n class well free settled = ask_sound t i (InitEnd class well) as_it_was (λ e. cc, λ v e. cc) (λ K' le ok w a r.
      let m : Moved t K' (same_shapes K' (ended_world K' class well)) = classes_moved t K' (ended_class K'.world.classes i class well (state_of K'.world.classes class)) ok
      (ended_ready K' class well (state_of K'.world.classes class) ok (λ h. settled_later class le.later (settled h))) in
      let f : FreeIn t i (ended_world K' class well).classes = ended_free class K'.world.classes well (state_of K'.world.classes class) refl (free_but_between class le free) in
      (subst (λ (w : World). Moved t K' (same_shapes K' w)) (reply_is r).0 m, (refl, subst (λ (w : World). FreeIn t i w.classes) (reply_is r).0 f, sym (reply_is r).1)))
