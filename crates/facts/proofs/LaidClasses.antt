-- Classes as they are in Java and as they are laid out have the same facts, and their initialization does the same.
use Rattle.std.proofs.Common.{◌≡◌, ℕ, zero, suc, Bool, true, false, not, ◌&&◌, ◌||◌, List, [], ◌∷◌, map, Option, Some, None, refl, sym, ap, ◌∙◌, subst, if◌then◌else◌}
use Rattle.std.proofs.Math.Path.{fun_ext}
use Rattle.std.specs.Option.{option_map}
use Rattle.facts.specs.Uses.{keeps_this}
use Rattle.facts.specs.Items.{java, kotlin, Done, done, nothing_done, calm_use, items_use}
use Rattle.facts.specs.Layout.{unset}
use Rattle.facts.specs.Classes.{TellsApart, Class, Language, find, above_by, with_above, throughout, stores_static, stores_field, own_keeps, in_java, in_kotlin, closed, calm, statics_lead, fields_lead, statics_do, idle, is_interface_by, touches, laid_class}
use Rattle.facts.specs.Runs.{Event, Initializes, Initialization, Above}
use Rattle.facts.proofs.Bools.{and_left, and_right, and_both}
use Rattle.facts.proofs.LaidItems.{laid_does, laid_calm, laid_keeps}

module _ {C N : Type 0} (same_class : C → C → Bool) (same : N → N → Bool) (T : TellsApart same_class) (classes : List (Class C N)) (n : ℕ) where
  abbrev j : Language C N
  j = in_java same_class same

  abbrev k : Language C N
  k = in_kotlin same_class same

  abbrev lay : Class C N → Class C N
  lay = laid_class same_class same j classes n

  abbrev pub as_laid : List (Class C N)
  as_laid = map lay classes

  pick : (b : Bool) (x : Class C N) (o p : Option (Class C N)) → o ≡ option_map lay p → (if b then Some (lay x) else o) ≡ option_map lay (if b then Some x else p)
  pick true x o p h = refl
  pick false x o p h = h

  find_by : (list : List (Class C N)) (name : C) → find same_class (map lay list) name ≡ option_map lay (find same_class list name)
  find_by [] name = refl
  find_by (x ∷ more) name = pick (same_class x.name name) x (find same_class (map lay more) name) (find same_class more name) (find_by more name)

  pub find_laid : (name : C) → find same_class as_laid name ≡ option_map lay (find same_class classes name)
  find_laid name = find_by classes name

  -- a fact of each class and those above it that the layout keeps
  module _ (f g : Class C N → Bool) (each : (c : C) (x : Class C N) → find same_class classes c ≡ Some x → f (lay x) ≡ g x) where
    same_one : (c : C) (a b : C → Bool) → a ≡ b → (o : Option (Class C N)) → find same_class classes c ≡ o → with_above same_class f a (option_map lay o) ≡ with_above same_class g b o
    same_one c a b e None is = refl
    same_one c a b e (Some x) is = ap (λ z. z && above_by a x.above) (each c x is) ∙ ap (λ (h : C → Bool). g x && above_by h x.above) e

    throughout_laid : (m : ℕ) (c : C) → throughout same_class f as_laid m c ≡ throughout same_class g classes m c
    throughout_laid zero c = refl
    throughout_laid (suc m) c = ap (with_above same_class f (throughout same_class f as_laid m)) (find_laid c) ∙ same_one c (throughout same_class f as_laid m) (throughout same_class g classes m) (fun_ext (λ x. throughout_laid m x)) (find same_class classes c) refl

  stored_calmly : (c : C) (earlier : N → Bool) (name : N) → stores_static {N = N} c name (calm_use same (same_class c) earlier) ≡ true
  stored_calmly c earlier name = T.self c

  calm_one : (c : C) (x : Class C N) → find same_class classes c ≡ Some x → k.is_calm (lay x) ≡ j.is_calm x
  calm_one c x is = laid_calm (stores_static x.name) same (same_class x.name) (stored_calmly x.name) (statics_lead same_class same j classes n x) x.statics

  pub calm_laid : (c : C) → calm same_class same k as_laid n c ≡ calm same_class same j classes n c
  calm_laid c = throughout_laid k.is_calm j.is_calm calm_one n c

  above_calm : (o : Option C) → above_by (calm same_class same k as_laid n) o ≡ above_by (calm same_class same j classes n) o
  above_calm None = refl
  above_calm (Some c) = calm_laid c

  pub statics_lead_laid : (x : Class C N) → statics_lead same_class same k as_laid n (lay x) ≡ statics_lead same_class same j classes n x
  statics_lead_laid x = above_calm x.above

  -- no static is unset in a class below one that isn't calm
  module _ (none_unset : (c : C) (x : Class C N) → find same_class classes c ≡ Some x → statics_lead same_class same j classes n x ≡ false → unset x.statics ≡ []) where
    -- what the initialization of a class does
    pub same_statics : (c : C) (x : Class C N) → find same_class classes c ≡ Some x → done (kotlin (stores_static x.name)) (statics_lead same_class same k as_laid n (lay x)) (lay x).statics ≡ done (java (stores_static x.name)) (statics_lead same_class same j classes n x) x.statics
    same_statics c x is = laid_does (stores_static x.name) (statics_lead same_class same j classes n x) (statics_lead same_class same k as_laid n (lay x)) x.statics (λ h. statics_lead_laid x ∙ h) (none_unset c x is)

    abbrev java_does : Class C N → List (Done C N)
    java_does x = done (java (stores_static x.name)) (statics_lead same_class same j classes n x) x.statics

    abbrev kotlin_does : Class C N → List (Done C N)
    kotlin_does x = done (kotlin (stores_static x.name)) (statics_lead same_class same k as_laid n x) x.statics

    -- Each run of an initialization in Java is one of the laid classes, and the other way round.
    mutual
      pub laid_runs : (c : C) (es : List (Event C N)) → Initialization same_class classes java_does c es → Initialization same_class as_laid kotlin_does c es
      laid_runs c es (Initialization.unlisted a is) = Initialization.unlisted a (find_laid a ∙ ap (option_map lay) is)
      laid_runs c es (Initialization.begins a x d fs gs is up run) = Initialization.begins a (lay x) d fs gs (find_laid a ∙ ap (option_map lay) is) (laid_above x.above fs up) (subst (λ ds. Initializes x.name ds false gs d) (sym (same_statics a x is)) run)

      laid_above : (o : Option C) (es : List (Event C N)) → Above same_class classes java_does o es → Above same_class as_laid kotlin_does o es
      laid_above o es Above.none = Above.none
      laid_above o es (Above.already a) = Above.already a
      laid_above o es (Above.first a fs run) = Above.first a fs (laid_runs a fs run)

    unlisted_by : (c : C) (o : Option (Class C N)) → find same_class classes c ≡ o → option_map lay o ≡ None → find same_class classes c ≡ None
    unlisted_by c None is h = is
    unlisted_by c (Some x) is h = cc

    abbrev get : Option (Class C N) → Class C N → Class C N
    get None y = y
    get (Some x) y = x

    listed_by : (c : C) (o : Option (Class C N)) → find same_class classes c ≡ o → (y : Class C N) → option_map lay o ≡ Some y → (x : Class C N) × ((find same_class classes c ≡ Some x) × (lay x ≡ y))
    listed_by c None is y h = cc
    listed_by c (Some x) is y h = (x, (is, ap (λ o. get o y) h))

    mutual
      pub laid_runs_back : (c : C) (es : List (Event C N)) → Initialization same_class as_laid kotlin_does c es → Initialization same_class classes java_does c es
      laid_runs_back c es (Initialization.unlisted a is) = Initialization.unlisted a (unlisted_by a (find same_class classes a) refl (sym (find_laid a) ∙ is))
      laid_runs_back c es (Initialization.begins a y d fs gs is up run) =
          let found : (x : Class C N) × ((find same_class classes a ≡ Some x) × (lay x ≡ y)) = listed_by a (find same_class classes a) refl y (sym (find_laid a) ∙ is) in
          let ran : Initializes found.0.name (kotlin_does (lay found.0)) false gs d = subst (λ (z : Class C N). Initializes z.name (kotlin_does z) false gs d) (sym found.1.1) run in
          Initialization.begins a found.0 d fs gs found.1.0 (subst (λ (z : Class C N). Above same_class classes java_does z.above fs) (sym found.1.1) (back_above y.above fs up)) (subst (λ ds. Initializes found.0.name ds false gs d) (same_statics a found.0 found.1.0) ran)

      back_above : (o : Option C) (es : List (Event C N)) → Above same_class as_laid kotlin_does o es → Above same_class classes java_does o es
      back_above o es Above.none = Above.none
      back_above o es (Above.already a) = Above.already a
      back_above o es (Above.first a fs run) = Above.first a fs (laid_runs_back a fs run)

    idle_one : (c : C) (x : Class C N) → find same_class classes c ≡ Some x → statics_do same_class same k as_laid n (lay x) ≡ statics_do same_class same j classes n x
    idle_one c x is = ap nothing_done (same_statics c x is)

    pub idle_laid : (c : C) → idle same_class same k as_laid n c ≡ idle same_class same j classes n c
    idle_laid c = throughout_laid (statics_do same_class same k as_laid n) (statics_do same_class same j classes n) idle_one n c

    interface_one : (o : Option (Class C N)) → is_interface_by same_class same k as_laid n (option_map lay o) ≡ is_interface_by same_class same j classes n o
    interface_one None = refl
    interface_one (Some x) = refl

    pub touches_laid : (here c : C) → touches same_class same k as_laid n here c ≡ touches same_class same j classes n here c
    touches_laid here c =
        ap (λ z. not (z || is_interface_by same_class same k as_laid n (find same_class as_laid c) || (same_class here c && calm same_class same k as_laid n c))) (idle_laid c) ∙
        ap (λ z. not (idle same_class same j classes n c || z || (same_class here c && calm same_class same k as_laid n c))) (ap (is_interface_by same_class same k as_laid n) (find_laid c) ∙ interface_one (find same_class classes c)) ∙
        ap (λ z. not (idle same_class same j classes n c || is_interface_by same_class same j classes n (find same_class classes c) || (same_class here c && z))) (calm_laid c)

  -- ---- closed, in the one direction that is needed: an accessor on `this` is there no call

  keeps_up : (x : Class C N) → j.keeps x ≡ true → k.keeps (lay x) ≡ true
  keeps_up x h =
      let own : own_keeps same_class same x ≡ true = and_left (own_keeps same_class same x) (not x.calls_accessor) h in
      and_both (x.constructors keeps_this) (items_use (lay x).fields keeps_this) (and_left (x.constructors keeps_this) (items_use x.fields keeps_this) own)
      (laid_keeps stores_field (λ name. refl) (fields_lead same_class same j classes n x) x.fields ∙ and_right (x.constructors keeps_this) (items_use x.fields keeps_this) own)

  above_up : (a b : C → Bool) → ((c : C) → b c ≡ true → a c ≡ true) → (o : Option C) → above_by b o ≡ true → above_by a o ≡ true
  above_up a b up None h = refl
  above_up a b up (Some c) h = up c h

  one_up : (a b : C → Bool) → ((c : C) → b c ≡ true → a c ≡ true) → (o : Option (Class C N)) → with_above same_class j.keeps b o ≡ true → with_above same_class k.keeps a (option_map lay o) ≡ true
  one_up a b up None h = refl
  one_up a b up (Some x) h = and_both (k.keeps (lay x)) (above_by a x.above) (keeps_up x (and_left (j.keeps x) (above_by b x.above) h)) (above_up a b up x.above (and_right (j.keeps x) (above_by b x.above) h))

  closed_by : (m : ℕ) (c : C) → throughout same_class j.keeps classes m c ≡ true → throughout same_class k.keeps as_laid m c ≡ true
  closed_by zero c h = h
  closed_by (suc m) c h = ap (with_above same_class k.keeps (throughout same_class k.keeps as_laid m)) (find_laid c) ∙ one_up (throughout same_class k.keeps as_laid m) (throughout same_class j.keeps classes m) (λ x y. closed_by m x y) (find same_class classes c) h

  pub closed_laid : (c : C) → closed same_class same j classes n c ≡ true → closed same_class same k as_laid n c ≡ true
  closed_laid c = closed_by n c

  -- what the initializers of an object do, where no field is unset in a class below one that isn't closed
  pub same_fields : (x : Class C N) → (fields_lead same_class same j classes n x ≡ false → unset x.fields ≡ []) → done (kotlin stores_field) (fields_lead same_class same k as_laid n (lay x)) (lay x).fields ≡ done (java stores_field) (fields_lead same_class same j classes n x) x.fields
  same_fields x none_unset = laid_does stores_field (fields_lead same_class same j classes n x) (fields_lead same_class same k as_laid n (lay x)) x.fields (above_up (closed same_class same k as_laid n) (closed same_class same j classes n) closed_laid x.above) none_unset
