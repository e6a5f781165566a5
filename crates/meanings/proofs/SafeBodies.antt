-- Bodies that are sound, and the parts that enter them.
use Rattle.std.proofs.Common.{◌≡◌, ℕ, Bool, true, false, ◌&&◌, List, [], ◌∷◌, Some, refl, sym, ◌∙◌, subst, if◌then◌else◌}
use Rattle.std.specs.Prelude.{codes}
use Rattle.meanings.specs.Values.{Name, ClassName, same_class, same_flag, Field, Site, same_site, Value, Null, InitEnd, Touch, Answer, Ready, Run, Mine, Failed, Done, Given, Raised}
use Rattle.meanings.specs.Outcome.{Locals, Exit, Jump, Exits, Returns, Throws, Jumps, Meaning, pure, ◌>>=◌, jump, ask}
use Rattle.meanings.specs.Classes.{is_error}
use Rattle.meanings.specs.Machine.{Place, received, ask_done, raise, returned, apart, init_end, initialize, touched, touch}
use Rattle.meanings.specs.Tables.{Signature, Table, find, Known, Later}
use Rattle.meanings.specs.Safety.{Safe, gives, jumps, Sound, Settled, FreeIn, FreeButIn, OnlyThrows, BodiesOk}
use Rattle.meanings.proofs.SameValues.{both, same_class_true}
use Rattle.meanings.proofs.SafeLaws.{after_safe, bind_sound, pure_sound, jump_sound, weaken}
use Rattle.meanings.proofs.SafeSteps.{settled_later, Thrown, free_lasting, TouchSays, raise_sound, touch_asks, end_asks}

find_class_by : (m n : Signature) (ms : List Signature) (site : Site) (b : Bool) → same_site m.site site ≡ b → (find ms site ≡ Some n → n.site.class ≡ site.class) → (if b then Some m else find ms site) ≡ Some n → n.site.class ≡ site.class
find_class_by m n ms site true e more h =
    let same : m ≡ n = cc in
    subst (λ (x : Signature). x.site.class ≡ site.class) same (same_class_true m.site.class site.class (both (same_class m.site.class site.class) _ (both (same_class m.site.class site.class && same_flag m.site.is_static site.is_static) _ e).0).0)
find_class_by m n ms site false e more h = more h

pub find_class : (ms : List Signature) (site : Site) (n : Signature) → find ms site ≡ Some n → n.site.class ≡ site.class
find_class [] site n h = cc
find_class (m ∷ ms) site n h = find_class_by m n ms site (same_site m.site site) refl (find_class ms site n) h

module _ (t : Table) (i : ℕ) where
  pub apart_sound : {Q : Known → Unit {0} → Locals → Type 0} {J J' : Known → Jump → Locals → Type 0} {Q' : Known → Value → Locals → Type 0} {K : Known} {m : Meaning (Unit {0})} {l : Locals} {n : ℕ}
      → Sound t i Q J K m [] n
      → ((K' : Known) (l' : Locals) → Later K K' → Q K' tt l' → Q' K' Null l)
      → ((K' : Known) (v : Value) (l' : Locals) → Later K K' → J K' (Returns v) l' → Q' K' v l)
      → ((K' : Known) (v : Value) (l' : Locals) → Later K K' → J K' (Throws v) l' → J' K' (Throws v) l)
      → ((K' : Known) (e : Exit) (l' : Locals) → J K' (Exits e) l' → ⊥)
      → Sound t i Q' J' K (apart m) l n
  apart_sound {J = J} {J' = J'} {Q' = Q'} {K = K} {l = l} h ends returns throws exits = record {
    by = after_safe t i (returned l) (record { asks = λ p. refl; is_busy = refl }) h.by
        (λ K' u l' n le q. gives Null l n (λ xs. refl) (ends K' l' le q)) left;
  } where
    left : (K' : Known) (j : Jump) (l' : Locals) (n : ℕ) → Later K K' → J K' j l' → Safe t i Q' J' K' (λ xs. returned l (Jumps j (record { locals = l'; answers = xs; n = n })))
    left K' (Returns v) l' n le q = gives v l n (λ xs. refl) (returns K' v l' le q)
    left K' (Throws v) l' n le q = jumps (Throws v) l n (λ xs. refl) (throws K' v l' le q)
    left K' (Exits e) l' n le q = absurd (exits K' e l' q)

  -- ---- a use of a class

  done_after : {J : Known → Jump → Locals → Type 0} {K : Known} (l : Locals) (n : ℕ) (class : ClassName) (well : Bool) → FreeButIn t i class K.world.classes → (well ≡ true → Settled t i K class)
      → Sound t i (λ K' u l'. (l' ≡ l) × FreeIn t i K'.world.classes) J K (ask_done (InitEnd class well)) l n
  done_after {J = J} l n class well free settled = bind_sound t i (bind_sound t i (end_asks t i l n class well free settled)
      (λ K' a l' n' le q. subst (λ (a : Answer). Sound t i (λ K' u l'. (l' ≡ l) × FreeIn t i K'.world.classes) J K' (received a) l' n') (sym q.2) (pure_sound t i (q.0, q.1))))
      (λ K' v l' n' le q. pure_sound t i q)

  free_throws : {A : Type 0} {Q : Known → A → Locals → Type 0} {K : Known} {m : Meaning A} {l : Locals} {n : ℕ} → Sound t i Q (Thrown t i (λ K. FreeIn t i K.world.classes)) K m l n → Sound t i Q (OnlyThrows t i) K m l n
  free_throws h = weaken t i h (λ K' a l le q. q) (λ K' j l le. only K' j l) where
    only : (K' : Known) (j : Jump) (l : Locals) → Thrown t i (λ K. FreeIn t i K.world.classes) K' j l → OnlyThrows t i K' j l
    only K' (Throws v) l h = h
    only K' (Returns v) l h = absurd h
    only K' (Exits e) l h = absurd h

  pub raise_free : {A : Type 0} {Q : Known → A → Locals → Type 0} {K : Known} (l : Locals) (n : ℕ) (class : Name) → FreeIn t i K.world.classes → Sound t i Q (OnlyThrows t i) K (raise {A = A} class) l n
  raise_free l n class free = free_throws (raise_sound t i (λ K. FreeIn t i K.world.classes) (free_lasting t i) l n class free)

  fail_sound : {Q : Known → Unit {0} → Locals → Type 0} {K : Known} (l : Locals) (n : ℕ) (v : Value) (b : Bool) → FreeIn t i K.world.classes → Sound t i Q (OnlyThrows t i) K (if b then jump (Throws v) else raise (codes "ExceptionInInitializerError")) l n
  fail_sound l n v true free = jump_sound t i free
  fail_sound l n v false free = raise_free l n _ free

  -- how initializers end abruptly: by an exception
  abbrev pub StartThrows : ClassName → Known → Jump → Locals → Type 0
  StartThrows class K (Throws v) l = FreeButIn t i class K.world.classes
  StartThrows class K _ l = ⊥

  abbrev pub Touched : ClassName → Locals → Known → Unit {0} → Locals → Type 0
  Touched class l K u l' = (l' ≡ l) × FreeIn t i K.world.classes × Settled t i K class

  -- an initialization ends the class, well or failed
  initialize_sound : {K : Known} (p : Place) → BodiesOk t i p.bodies → (class : ClassName) (l : Locals) (n : ℕ) → FreeButIn t i class K.world.classes → Sound t i (Touched class l) (OnlyThrows t i) K (initialize p class) l n
  initialize_sound {K} p ok class l n free = record {
    by = after_safe t i (init_end p.classes class) (record { asks = λ q. refl; is_busy = refl })
        (apart_sound {J' = StartThrows class} {Q' = λ K' v l'. (l' ≡ l) × FreeButIn t i class K'.world.classes × Settled t i K' class} (ok.initializer class K n free)
        (λ K' l' le q. (refl, q.0, q.1)) (λ K' v l' le q. (refl, q.0, q.1)) (λ K' v l' le q. q) (λ K' e l' q. q)).by
        (λ K' v l' n' le q. (well K' l' n' q).by) (λ K' j l' n' le q. failed K' j l' n' q);
  } where
    well : (K' : Known) (l' : Locals) (n' : ℕ) → (l' ≡ l) × FreeButIn t i class K'.world.classes × Settled t i K' class → Sound t i (Touched class l) (OnlyThrows t i) K' (ask_done (InitEnd class true)) l' n'
    well K' l' n' q = weaken t i (done_after l' n' class true q.1 (λ e. q.2)) (λ K'' u l'' le h. (h.0 ∙ q.0, h.1, settled_later t i class le q.2)) (λ K'' j l'' le h. h)

    failed : (K' : Known) (j : Jump) (l' : Locals) (n' : ℕ) → StartThrows class K' j l' → Safe t i (Touched class l) (OnlyThrows t i) K' (λ xs. init_end p.classes class (Jumps j (record { locals = l'; answers = xs; n = n' })))
    failed K' (Throws v) l' n' q = (bind_sound t i (done_after l' n' class false q (λ e. cc)) (λ K'' u l'' n'' le h. fail_sound l'' n'' v (is_error p.classes v) h.1)).by
    failed K' (Returns v) l' n' q = absurd q
    failed K' (Exits e) l' n' q = absurd q

  touched_sound : {K : Known} (p : Place) → BodiesOk t i p.bodies → (class : ClassName) (l l' : Locals) (n : ℕ) (a : Answer) → ((f : Field) → t.needs_static class f ≡ true → t.calm class ≡ true) → l' ≡ l → TouchSays t i class K a → Sound t i (Touched class l) (OnlyThrows t i) K (touched p class a) l' n
  touched_sound {K} p ok class l l' n Run calm e says = weaken t i (initialize_sound p ok class l' n says) (λ K' u l'' le q. (q.0 ∙ e, q.1, q.2)) (λ K' j l'' le q. q)
  touched_sound p ok class l l' n Mine calm e says = pure_sound t i (e, says.0, λ f h. absurd (says.1 (calm f h)))
  touched_sound p ok class l l' n Ready calm e says = pure_sound t i (e, says.0, says.1)
  touched_sound p ok class l l' n Failed calm e says = raise_free l' n _ says
  touched_sound p ok class l l' n Done calm e says = absurd says
  touched_sound p ok class l l' n (Given v) calm e says = absurd says
  touched_sound p ok class l l' n (Raised v) calm e says = absurd says

  touch_by : {K : Known} (p : Place) → BodiesOk t i p.bodies → (class : ClassName) (l : Locals) (n : ℕ) → ((f : Field) → t.needs_static class f ≡ true → t.calm class ≡ true) → FreeIn t i K.world.classes
      → (b : Bool) → (b ≡ false → Settled t i K class) → Sound t i (Touched class l) (OnlyThrows t i) K (if b then ask (Touch class) >>= touched p class else pure tt) l n
  touch_by p ok class l n calm free true settled = bind_sound t i (touch_asks t i l n class free) (λ K' a l' n' le q. touched_sound p ok class l l' n' a calm q.0 q.1)
  touch_by p ok class l n calm free false settled = pure_sound t i (refl, free, settled refl)

  -- A use of a class: afterwards its required statics are stored.
  pub touch_sound : {K : Known} (p : Place) → BodiesOk t i p.bodies → (class : ClassName) (l : Locals) (n : ℕ) → ((f : Field) → t.needs_static class f ≡ true → t.calm class ≡ true) → FreeIn t i K.world.classes
      → (p.touches class ≡ false → Settled t i K class) → Sound t i (Touched class l) (OnlyThrows t i) K (touch p class) l n
  touch_sound p ok class l n calm free settled = touch_by p ok class l n calm free (p.touches class) settled
