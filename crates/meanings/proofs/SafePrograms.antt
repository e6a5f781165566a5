-- The bodies of a typed program are sound, to each depth, and so are its threads.
use Rattle.std.proofs.Common.{◌≡◌, ℕ, zero, suc, Bool, true, false, not, List, [], ◌∷◌, Some, None, slice_get, refl, sym, ◌∙◌, ap, subst, if◌then◌else◌}
use Rattle.meanings.specs.Values.{Name, same_name, ClassName, same_class, Site, same_site, Value, Object, Captured}
use Rattle.meanings.specs.Outcome.{Locals, Jump, Meaning, get, ◌>>◌, assign, assign_all, pay}
use Rattle.meanings.specs.Static.{KType}
use Rattle.meanings.specs.Machine.{Bodies}
use Rattle.meanings.specs.Program.{Program, Body, Initializer, place, outside, enter, begin, bodies, thread_from, Start, Enters, Runs}
use Rattle.meanings.specs.Objects.{this_name}
use Rattle.meanings.specs.Tables.{Signature, Table, find, type_in, AnInstance, Known, Later, Has, HasAll}
use Rattle.meanings.specs.Safety.{is_busy, gives, Sound, Settled, FreeIn, FreeButIn, Ends, Leaves, OnlyThrows, Started, Whole, BodiesOk, Different, names_of, TypedMethod, TypedConstructor, TypedInitializer, AllMethods, AllConstructors, AllInitializers, By, TypedProgram, EntersWell}
use Rattle.meanings.proofs.SameValues.{same_class_true}
use Rattle.meanings.proofs.KnownLaws.{has_later}
use Rattle.meanings.proofs.SafeLaws.{bind_sound, pure_sound, busy_sound, weaken}
use Rattle.meanings.proofs.SafeBodies.{find_class, apart_sound, touch_sound}

-- ---- arguments

pub record ArgsAt (t : Table) (ps : List (Name × KType)) (K : Known) (l l' : Locals) : Type 0 where
  pub typed : (y : Name) (type : KType) → type_in ps y ≡ Some type → Has t K (get l' y) type
  pub rest : (y : Name) → type_in ps y ≡ None → get l' y ≡ get l y

module _ (t : Table) (i : ℕ) where
  first_by : (K : Known) (x y : Name) (v : Value) (type type' : KType) (l l' : Locals) (ps : List (Name × KType)) (b : Bool) → same_name x y ≡ b → (b ≡ true → type_in ps y ≡ None) → ArgsAt t ps K ((x, v) ∷ l) l' → Has t K v type
      → (if b then Some type else type_in ps y) ≡ Some type' → Has t K (get l' y) type'
  first_by K x y v type type' l l' ps true same differs args has e =
      let types : type ≡ type' = cc in
      let read : get l' y ≡ v = args.rest y (differs refl) ∙ ap (λ (b : Bool). if b then v else get l y) same in
      subst (λ (u : Value). Has t K u type') (sym read) (subst (λ (x : KType). Has t K v x) types has)
  first_by K x y v type type' l l' ps false same differs args has e = args.typed y type' e

  rest_by : (K : Known) (x y : Name) (v : Value) (type : KType) (l l' : Locals) (ps : List (Name × KType)) (b : Bool) → same_name x y ≡ b → ArgsAt t ps K ((x, v) ∷ l) l' → (if b then Some type else type_in ps y) ≡ None → get l' y ≡ get l y
  rest_by K x y v type l l' ps true same args e = cc
  rest_by K x y v type l l' ps false same args e = args.rest y e ∙ ap (λ (b : Bool). if b then v else get l y) same

  abbrev ArgsEnd : List (Name × KType) → Known → Locals → Known → Unit {0} → Locals → Type 0
  ArgsEnd ps K l K' u l' = (K' ≡ K) × ArgsAt t ps K l l'

  args_next : {J : Known → Jump → Locals → Type 0} (p : Name × KType) (ps : List (Name × KType)) (v : Value) (vs : List Value) (K : Known) (l : Locals) → ((y : Name) → same_name p.0 y ≡ true → type_in ps y ≡ None) → Has t K v p.1
      → ((n : ℕ) → Sound t i (ArgsEnd ps K ((p.0, v) ∷ l)) J K (assign_all (names_of ps) vs) ((p.0, v) ∷ l) n)
      → (K' : Known) (l' : Locals) (n' : ℕ) → K' ≡ K → l' ≡ (p.0, v) ∷ l → Sound t i (ArgsEnd (p ∷ ps) K l) J K' (assign_all (names_of ps) vs) l' n'
  args_next {J} p ps v vs K l differs has more K' l' n' e h = subst (λ (K' : Known). Sound t i (ArgsEnd (p ∷ ps) K l) J K' (assign_all (names_of ps) vs) l' n') (sym e)
      (subst (λ (l' : Locals). Sound t i (ArgsEnd (p ∷ ps) K l) J K (assign_all (names_of ps) vs) l' n') (sym h)
      (weaken t i (more n') (λ K'' u l'' le q. (
        q.0,
        record {
          typed = λ y type d. first_by K p.0 y v p.1 type l l'' ps (same_name p.0 y) refl (differs y) q.1 has d;
          rest = λ y d. rest_by K p.0 y v p.1 l l'' ps (same_name p.0 y) refl q.1 d;
        },
      )) (λ K'' j l'' le q. q)))

  args_sound : {J : Known → Jump → Locals → Type 0} (ps : List (Name × KType)) (vs : List Value) (K : Known) (l : Locals) (n : ℕ) → Different ps → HasAll t K vs ps → Sound t i (ArgsEnd ps K l) J K (assign_all (names_of ps) vs) l n
  args_sound [] [] K l n differs has = pure_sound t i (refl, record { typed = λ y type e. cc; rest = λ y e. refl })
  args_sound [] (v ∷ vs) K l n differs has = absurd has
  args_sound (p ∷ ps) [] K l n differs has = absurd has
  args_sound {J = J'} (p ∷ ps) (v ∷ vs) K l n differs has =
      let first : Sound t i (λ K' u l'. (K' ≡ K) × (l' ≡ (p.0, v) ∷ l)) J' K (assign p.0 v) l n = record { by = gives tt ((p.0, v) ∷ l) n (λ xs. refl) (refl, refl) } in
      bind_sound t i first (λ K' u l' n' le q. args_next {J = J'} p ps v vs K l differs.0 has.0 (λ n. args_sound {J = J'} ps vs K ((p.0, v) ∷ l) n differs.1 has.1) K' l' n' q.0 q.1)

  pay_sound : {Q : Known → Unit {0} → Locals → Type 0} {J : Known → Jump → Locals → Type 0} {K : Known} (l : Locals) (n : ℕ) → Q K tt l → Sound t i Q J K pay l n
  pay_sound l zero q = record { by = is_busy (λ xs. refl) }
  pay_sound l (suc n) q = record { by = gives tt l n (λ xs. refl) q }

  -- ---- methods

  module _ (program : Program) {b : Bodies} (ok : BodiesOk t i b) where
    -- what a body does behind its entry
    abbrev entered : Body → List Value → Meaning (Unit {0})
    entered body vs = pay >> (assign_all body.parameters vs >> body.text (place program b body.site.class))

    abbrev entered_as : Body → List Name → ClassName → List Value → Meaning (Unit {0})
    entered_as body xs class vs = pay >> (assign_all xs vs >> body.text (place program b class))

    method_sound : (m : Signature) (body : Body) → TypedMethod t program m body → (K : Known) (n : ℕ) (vs : List Value) → FreeIn t i K.world.classes → Settled t i K m.site.class → HasAll t K vs m.parameters
        → Sound t i (Ends t i m.result) (Leaves t i m.result) K (entered body vs) [] n
    method_sound m body h K n vs free settled args =
        subst (λ (site : Site). Sound t i (Ends t i m.result) (Leaves t i m.result) K (entered_as body body.parameters site.class vs) [] n) (sym h.site)
        (subst (λ (xs : List Name). Sound t i (Ends t i m.result) (Leaves t i m.result) K (entered_as body xs m.site.class vs) [] n) (sym h.parameters)
        (bind_sound t i (pay_sound {Q = λ K' u l'. (K' ≡ K) × (l' ≡ [])} [] n (refl, refl)) (λ K' u l' n' le q.
        subst (λ (K' : Known). Sound t i (Ends t i m.result) (Leaves t i m.result) K' (assign_all (names_of m.parameters) vs >> body.text (place program b m.site.class)) l' n') (sym q.0)
        (bind_sound t i (args_sound m.parameters vs K l' n' h.different args) (λ K'' u l'' n'' le' q'.
        subst (λ (K : Known). Sound t i (Ends t i m.result) (Leaves t i m.result) K (body.text (place program b m.site.class)) l'' n'') (sym q'.0)
        (h.text i b ok K l'' n'' free settled q'.1.typed (λ x e. q'.1.rest x e ∙ ap (λ (l : Locals). get l x) q.1)))))))

    enter_by : (m m' : Signature) (body : Body) → TypedMethod t program m body → (ms : List Signature) (bs : List Body) (site : Site) (K : Known) (n : ℕ) (vs : List Value) (same : Bool) → FreeIn t i K.world.classes → Settled t i K m'.site.class → HasAll t K vs m'.parameters
        → (find ms site ≡ Some m' → Sound t i (Ends t i m'.result) (Leaves t i m'.result) K (enter program b bs site vs) [] n)
        → (if same then Some m else find ms site) ≡ Some m'
        → Sound t i (Ends t i m'.result) (Leaves t i m'.result) K (if same then entered body vs else enter program b bs site vs) [] n
    enter_by m m' body h ms bs site K n vs true free settled args more e =
        let is : m ≡ m' = cc in
        subst (λ (m' : Signature). Sound t i (Ends t i m'.result) (Leaves t i m'.result) K (entered body vs) [] n) is
        (method_sound m body h K n vs free (subst (λ (x : Signature). Settled t i K x.site.class) (sym is) settled) (subst (λ (x : Signature). HasAll t K vs x.parameters) (sym is) args))
    enter_by m m' body h ms bs site K n vs false free settled args more e = more e

    enter_sound : (ms : List Signature) (bs : List Body) → AllMethods t program ms bs → (site : Site) (m : Signature) → find ms site ≡ Some m → (K : Known) (n : ℕ) (vs : List Value) → FreeIn t i K.world.classes → Settled t i K m.site.class → HasAll t K vs m.parameters
        → Sound t i (Ends t i m.result) (Leaves t i m.result) K (enter program b bs site vs) [] n
    enter_sound [] bs hs site m e K n vs free settled args = cc
    enter_sound (first ∷ ms) [] hs site m e K n vs free settled args = absurd hs
    enter_sound (first ∷ ms) (body ∷ bs) hs site m e K n vs free settled args =
        enter_by first m body hs.0 ms bs site K n vs (same_site body.site site) free settled args (λ e'. enter_sound ms bs hs.1 site m e' K n vs free settled args)
        (subst (λ (x : Site). (if same_site x site then Some first else find ms site) ≡ Some m) (sym hs.0.site) e)

    -- ---- constructors

    set_this : {J : Known → Jump → Locals → Type 0} (K : Known) (v : Value) (l' : Locals) (n' : ℕ) → Sound t i (λ K' u l''. (K' ≡ K) × (l'' ≡ (this_name, v) ∷ l')) J K (assign this_name v) l' n'
    set_this K v l' n' = record { by = gives tt ((this_name, v) ∷ l') n' (λ xs. refl) (refl, refl) }

    constructor_sound : (m : Signature) (body : Body) → TypedConstructor t program m body → (K : Known) (n k : ℕ) (captured : Captured) (vs : List Value) → FreeIn t i K.world.classes → Settled t i K m.site.class → slice_get K.shapes k ≡ Some (AnInstance m.site.class) → HasAll t K vs m.parameters
        → Sound t i (Whole t i m.site.class k) (OnlyThrows t i) K (entered body (Object m.site.class k captured ∷ vs)) [] n
    constructor_sound m body h K n k captured vs free settled shape args =
        let v : Value = Object m.site.class k captured in
        subst (λ (site : Site). Sound t i (Whole t i m.site.class k) (OnlyThrows t i) K (entered_as body body.parameters site.class (Object m.site.class k captured ∷ vs)) [] n) (sym h.site)
        (subst (λ (xs : List Name). Sound t i (Whole t i m.site.class k) (OnlyThrows t i) K (entered_as body xs m.site.class (Object m.site.class k captured ∷ vs)) [] n) (sym h.parameters)
        (bind_sound t i (pay_sound {Q = λ K' u l'. (K' ≡ K) × (l' ≡ [])} [] n (refl, refl)) (λ K' u l' n' le q.
        subst (λ (K' : Known). Sound t i (Whole t i m.site.class k) (OnlyThrows t i) K' ((assign this_name v >> assign_all (names_of m.parameters) vs) >> body.text (place program b m.site.class)) l' n') (sym q.0)
        (bind_sound t i {Q = ArgsEnd m.parameters K ((this_name, v) ∷ l')} (bind_sound t i (set_this K v l' n')
        (λ K'' u l'' n'' le' q'. subst (λ (K'' : Known). Sound t i (ArgsEnd m.parameters K ((this_name, v) ∷ l')) (OnlyThrows t i) K'' (assign_all (names_of m.parameters) vs) l'' n'') (sym q'.0)
        (subst (λ (l'' : Locals). Sound t i (ArgsEnd m.parameters K ((this_name, v) ∷ l')) (OnlyThrows t i) K (assign_all (names_of m.parameters) vs) l'' n'') (sym q'.1)
        (args_sound m.parameters vs K ((this_name, v) ∷ l') n'' h.different args))))
        (λ K'' u l'' n'' le' q'.
        subst (λ (K : Known). Sound t i (Whole t i m.site.class k) (OnlyThrows t i) K (body.text (place program b m.site.class)) l'' n'') (sym q'.0)
        (h.text i b ok K l'' n'' k captured free settled (q'.1.rest this_name h.no_this) shape q'.1.typed))))))

    make_by : (m m' : Signature) (body : Body) → TypedConstructor t program m body → (ms : List Signature) (bs : List Body) (site : Site) (K : Known) (n k : ℕ) (captured : Captured) (vs : List Value) (same : Bool) → FreeIn t i K.world.classes → Settled t i K m'.site.class → slice_get K.shapes k ≡ Some (AnInstance m'.site.class) → HasAll t K vs m'.parameters
        → (find ms site ≡ Some m' → Sound t i (Whole t i m'.site.class k) (OnlyThrows t i) K (enter program b bs site (Object m'.site.class k captured ∷ vs)) [] n)
        → (if same then Some m else find ms site) ≡ Some m'
        → Sound t i (Whole t i m'.site.class k) (OnlyThrows t i) K (if same then entered body (Object m'.site.class k captured ∷ vs) else enter program b bs site (Object m'.site.class k captured ∷ vs)) [] n
    make_by m m' body h ms bs site K n k captured vs true free settled shape args more e =
        let is : m ≡ m' = cc in
        subst (λ (m' : Signature). Sound t i (Whole t i m'.site.class k) (OnlyThrows t i) K (entered body (Object m'.site.class k captured ∷ vs)) [] n) is
        (constructor_sound m body h K n k captured vs free (subst (λ (x : Signature). Settled t i K x.site.class) (sym is) settled) (subst (λ (x : Signature). slice_get K.shapes k ≡ Some (AnInstance x.site.class)) (sym is) shape) (subst (λ (x : Signature). HasAll t K vs x.parameters) (sym is) args))
    make_by m m' body h ms bs site K n k captured vs false free settled shape args more e = more e

    make_sound : (ms : List Signature) (bs : List Body) → AllConstructors t program ms bs → (site : Site) (m : Signature) → find ms site ≡ Some m → (K : Known) (n k : ℕ) (captured : Captured) (vs : List Value) → FreeIn t i K.world.classes → Settled t i K m.site.class → slice_get K.shapes k ≡ Some (AnInstance m.site.class) → HasAll t K vs m.parameters
        → Sound t i (Whole t i m.site.class k) (OnlyThrows t i) K (enter program b bs site (Object m.site.class k captured ∷ vs)) [] n
    make_sound [] bs hs site m e K n k captured vs free settled shape args = cc
    make_sound (first ∷ ms) [] hs site m e K n k captured vs free settled shape args = absurd hs
    make_sound (first ∷ ms) (body ∷ bs) hs site m e K n k captured vs free settled shape args =
        make_by first m body hs.0 ms bs site K n k captured vs (same_site body.site site) free settled shape args (λ e'. make_sound ms bs hs.1 site m e' K n k captured vs free settled shape args)
        (subst (λ (x : Site). (if same_site x site then Some first else find ms site) ≡ Some m) (sym hs.0.site) e)

    -- ---- initializers

    abbrev Initialized : ClassName → Known → Unit {0} → Locals → Type 0
    Initialized class K u l = FreeButIn t i class K.world.classes × Settled t i K class

    begin_by : (first : Initializer) (rest : List Initializer) (class : ClassName) (K : Known) (n : ℕ) (same : Bool) → same_class first.class class ≡ same → FreeButIn t i class K.world.classes
        → (AllInitializers t program rest class → Sound t i (Initialized class) (Started t i class) K (begin program b rest class) [] n)
        → By same (TypedInitializer t program first) (AllInitializers t program rest class)
        → Sound t i (Initialized class) (Started t i class) K (if same then first.text (place program b class) else begin program b rest class) [] n
    begin_by first rest class K n true same free more h =
        let named : first.class ≡ class = same_class_true first.class class same in
        subst (λ (class : ClassName). Sound t i (Initialized class) (Started t i class) K (first.text (place program b class)) [] n) named
        (h.text i b ok K n (subst (λ (x : ClassName). FreeButIn t i x K.world.classes) (sym named) free))
    begin_by first rest class K n false same free more h = more h

    begin_sound : (list : List Initializer) (class : ClassName) → AllInitializers t program list class → (K : Known) (n : ℕ) → FreeButIn t i class K.world.classes
        → Sound t i (Initialized class) (Started t i class) K (begin program b list class) [] n
    begin_sound [] class none K n free = pure_sound t i (free, λ f need. absurd (none f need))
    begin_sound (first ∷ rest) class h K n free = begin_by first rest class K n (same_class first.class class) refl free (λ h'. begin_sound rest class h' K n free) h

  -- ---- depth, and threads

  module _ (program : Program) (typed : TypedProgram t program) where
    pub bodies_ok : (d : ℕ) → BodiesOk t i (bodies program d)
    bodies_ok zero = record { method = λ site m e K n vs free settled args. busy_sound t i; constructor = λ site m e K n k captured vs free settled shape args. busy_sound t i; initializer = λ class K n free. busy_sound t i }
    bodies_ok (suc d) = record {
      method = λ site m e K n vs free settled args. enter_sound program (bodies_ok d) t.methods program.methods typed.methods site m e K n vs free settled args;
      constructor = λ site m e K n k captured vs free settled shape args. make_sound program (bodies_ok d) t.constructors program.constructors typed.constructors site m e K n k captured vs free settled shape args;
      initializer = λ class K n free. begin_sound program (bodies_ok d) program.initializers class (typed.initializers class) K n free;
    }

    has_all_later : {K K' : Known} → Later K K' → (vs : List Value) (ps : List (Name × KType)) → HasAll t K vs ps → HasAll t K' vs ps
    has_all_later le [] [] h = tt
    has_all_later le [] (p ∷ ps) h = absurd h
    has_all_later le (v ∷ vs) [] h = absurd h
    has_all_later le (v ∷ vs) (p ∷ ps) h = (has_later t le v p.1 h.0, has_all_later le vs ps h.1)

    -- a thread's value, or what it throws; nothing is known of either
    abbrev pub AnyEnd : Known → Value → Locals → Type 0
    AnyEnd K v l = Unit {0}

    abbrev pub AnyLeave : Known → Jump → Locals → Type 0
    AnyLeave K j l = Unit {0}

    not_idle : (b : Bool) → not b ≡ false → b ≡ true
    not_idle true e = refl
    not_idle false e = cc

    pub thread_sound : (d : ℕ) (start : Start) (K : Known) → EntersWell t K start → (n : ℕ) → FreeIn t i K.world.classes → Sound t i AnyEnd AnyLeave K (thread_from program (bodies program d) start) [] n
    thread_sound d (Enters site vs) K h n free =
        let named : (h.0).site.class ≡ site.class = find_class t.methods site h.0 h.1 in
        bind_sound t i (weaken t i (touch_sound t i (outside program (bodies program d)) (bodies_ok d) site.class [] n (typed.calm site.class) free
        (λ off f need. let no : true ≡ false = sym (not_idle (program.is_idle site.class) off) ∙ typed.idle site.class f need in cc))
        (λ K' u l le q. q) (λ K' j l le q. tt))
        (λ K' u l n' le q. apart_sound t i ((bodies_ok d).method site h.0 h.1 K' n' vs q.1 (subst (λ (x : ClassName). Settled t i K' x) (sym named) q.2) (has_all_later le vs (h.0).parameters h.2))
        (λ K'' l'' le' q'. tt) (λ K'' v l'' le' q'. tt) (λ K'' v l'' le' q'. tt) (λ K'' e l'' q'. q'))
    thread_sound d (Runs v) K h n free = absurd h
