-- What runs of closed, calm and idle classes do and don't do.
use Rattle.std.proofs.Common.{◌≡◌, ℕ, zero, suc, Bool, true, false, ◌&&◌, List, [], ◌∷◌, ◌++◌, Option, Some, refl, subst}
use Rattle.facts.specs.Uses.{Use, Uses, both, keeps_this}
use Rattle.facts.specs.Items.{Item, Unset, Declared, Constant, Default, Late, Given, Block, Done, Stores, Does, Reading, java, kotlin, done, nothing_done, item_uses, items_use, calm_use, calm_item, calm_items, passed, behind, no_name}
use Rattle.facts.specs.Classes.{TellsApart, Class, find, above_by, with_above, throughout, stores_static, in_java, in_kotlin, calm}
use Rattle.facts.specs.Runs.{Event, Fetches, Stored, Begins, Enters, OwnField, Shows, Meets, Others, Acts, Runs, Initializes, Initialization, Above, Construction, Super, OnlyStatics, ReadsOf, Hidden}
use Rattle.facts.proofs.Bools.{and_left, and_right, no_falsity, nothing_more}

not_both : (b : Bool) → b ≡ true → b ≡ false → ⊥
not_both true h k = cc
not_both false h k = cc

module _ {C N : Type 0} where
  -- ---- the class above

  found : (same_class : C → C → Bool) (own : Class C N → Bool) (classes : List (Class C N)) (n : ℕ) (c : C) (x : Class C N) → find same_class classes c ≡ Some x → throughout same_class own classes (suc n) c ≡ true → (own x && above_by (throughout same_class own classes n) x.above) ≡ true
  found same_class own classes n c x is h = subst (λ o. with_above same_class own (throughout same_class own classes n) o ≡ true) is h

  -- ---- closed

  hidden_append : (es fs : List (Event C N)) → Hidden es → Hidden fs → Hidden (es ++ fs)
  hidden_append [] fs h k = k
  hidden_append (Fetches c f ∷ es) fs h k = hidden_append es fs h k
  hidden_append (Stored c f ∷ es) fs h k = hidden_append es fs h k
  hidden_append (Begins c ∷ es) fs h k = hidden_append es fs h k
  hidden_append (Enters ∷ es) fs h k = hidden_append es fs h k
  hidden_append (OwnField ∷ es) fs h k = hidden_append es fs h k
  hidden_append (Shows ∷ es) fs h k = absurd h
  hidden_append (Meets ∷ es) fs h k = absurd h

  others_hidden : (b : Bool) (es : List (Event C N)) → Others b es → b ≡ false → Hidden es
  others_hidden b es (Others.nothing a) h = tt
  others_hidden b es (Others.meets fs o) h = cc

  -- where the object wasn't shown before, it isn't shown behind it, nor by it
  abbrev StaysHidden : Bool → List (Event C N) → Bool → Type 0
  StaysHidden b es d = b ≡ false → (d ≡ false) × Hidden es

  stays_chained : (b d e : Bool) (es fs : List (Event C N)) → StaysHidden b es d → StaysHidden d fs e → StaysHidden b (es ++ fs) e
  stays_chained b d e es fs first then h =
      let x : (d ≡ false) × Hidden es = first h in
      let y : (e ≡ false) × Hidden fs = then x.0 in
      (y.0, hidden_append es fs x.1 y.1)

  act_hidden : (own : C) (x : Use C N) (b d : Bool) (es : List (Event C N)) → keeps_this x ≡ true → Acts own x b es d → StaysHidden b es d
  act_hidden own x b d es k (Acts.reads c f a) h = (h, tt)
  act_hidden own x b d es k (Acts.writes c f a) h = (h, tt)
  act_hidden own x b d es k (Acts.reads_first c f a fs other o) h = (h, hidden_append fs _ (others_hidden a fs o h) tt)
  act_hidden own x b d es k (Acts.writes_first c f a fs other o) h = (h, hidden_append fs _ (others_hidden a fs o h) tt)
  act_hidden own x b d es k (Acts.calls c m a fs o) h = (h, others_hidden a fs o h)
  act_hidden own x b d es k (Acts.calls_first c m a fs o) h = (h, others_hidden a fs o h)
  act_hidden own x b d es k (Acts.this_field a) h = (h, tt)
  act_hidden own x b d es k (Acts.this a) h = absurd (no_falsity k)
  act_hidden own x b d es k (Acts.further a) h = (h, tt)
  act_hidden own x b d es k (Acts.further_enters a fs o) h = (h, others_hidden a fs o h)

  run_hidden : (own : C) (uses : Uses C N) (b d : Bool) (es : List (Event C N)) → uses keeps_this ≡ true → Runs own uses b es d → StaysHidden b es d
  run_hidden own uses b d es k (Runs.ends a) = λ h. (h, tt)
  run_hidden own uses b d es k (Runs.acts x a c e fs gs among act more) = stays_chained a c e fs gs (act_hidden own x a c fs (among keeps_this k) act) (run_hidden own uses c e gs k more)

  module _ (same_class : C → C → Bool) (classes : List (Class C N)) (keeps : Class C N → Bool) (kept : (x : Class C N) → keeps x ≡ true → (x.constructors keeps_this && items_use x.fields keeps_this) ≡ true) where
    abbrev AllKeep : ℕ → C → Type 0
    AllKeep n c = throughout same_class keeps classes n c ≡ true

    mutual
      construction_hidden : (n : ℕ) (c : C) (b d : Bool) (es : List (Event C N)) → AllKeep n c → Construction same_class classes c b es d → StaysHidden b es d
      construction_hidden n c b d es h (Construction.unlisted a e is) = λ k. (k, tt)
      construction_hidden zero c b d es h (Construction.constructs a x q r s t fs gs hs is run up rest) = absurd (no_falsity h)
      construction_hidden (suc n) c b d es h (Construction.constructs a x q r s t fs gs hs is run up rest) =
          let own : (keeps x && above_by (throughout same_class keeps classes n) x.above) ≡ true = found same_class keeps classes n a x is h in
          let both_keep : (x.constructors keeps_this && items_use x.fields keeps_this) ≡ true = kept x (and_left (keeps x) _ own) in
          stays_chained q r t fs (gs ++ hs) (run_hidden x.name x.constructors q r fs (and_left (x.constructors keeps_this) _ both_keep) run)
          (stays_chained r s t gs hs (super_hidden n x.above r s gs (and_right (keeps x) _ own) up) (run_hidden x.name (both x.constructors (items_use x.fields)) s t hs both_keep rest))

      super_hidden : (n : ℕ) (o : Option C) (b d : Bool) (es : List (Event C N)) → above_by (throughout same_class keeps classes n) o ≡ true → Super same_class classes o b es d → StaysHidden b es d
      super_hidden n o b d es h (Super.none a) = λ k. (k, tt)
      super_hidden n o b d es h (Super.first c a e fs run) = construction_hidden n c a e fs h run

    -- No text but its constructors and initializers uses an object before it is made.
    pub closed_hidden : (n : ℕ) (c : C) (d : Bool) (es : List (Event C N)) → AllKeep n c → Construction same_class classes c false es d → Hidden es
    closed_hidden n c d es h run = (construction_hidden n c false d es h run refl).1

  -- ---- calm

  only_append : (es fs : List (Event C N)) → OnlyStatics es → OnlyStatics fs → OnlyStatics (es ++ fs)
  only_append [] fs h k = k
  only_append (Fetches c f ∷ es) fs h k = only_append es fs h k
  only_append (Stored c f ∷ es) fs h k = only_append es fs h k
  only_append (Begins c ∷ es) fs h k = absurd h
  only_append (Enters ∷ es) fs h k = absurd h
  only_append (OwnField ∷ es) fs h k = absurd h
  only_append (Shows ∷ es) fs h k = absurd h
  only_append (Meets ∷ es) fs h k = absurd h

  module _ (same_class : C → C → Bool) (T : TellsApart same_class) (same : N → N → Bool) where
    abbrev IsCalm : C → Uses C N → Type 0
    IsCalm own uses = (earlier : N → Bool) × (uses (calm_use same (same_class own) earlier) ≡ true)

    act_calm : (own : C) (earlier : N → Bool) (x : Use C N) (b d : Bool) (es : List (Event C N)) → calm_use same (same_class own) earlier x ≡ true → Acts own x b es d → OnlyStatics es
    act_calm own earlier x b d es k (Acts.reads c f a) = tt
    act_calm own earlier x b d es k (Acts.writes c f a) = tt
    act_calm own earlier x b d es k (Acts.reads_first c f a fs other o) = absurd (not_both (same_class own c) (and_left (same_class own c) (earlier f) k) (T.apart own c other))
    act_calm own earlier x b d es k (Acts.writes_first c f a fs other o) = absurd (not_both (same_class own c) k (T.apart own c other))
    act_calm own earlier x b d es k (Acts.calls c m a fs o) = absurd (no_falsity k)
    act_calm own earlier x b d es k (Acts.calls_first c m a fs o) = absurd (no_falsity k)
    act_calm own earlier x b d es k (Acts.this_field a) = absurd (no_falsity k)
    act_calm own earlier x b d es k (Acts.this a) = absurd (no_falsity k)
    act_calm own earlier x b d es k (Acts.further a) = absurd (no_falsity k)
    act_calm own earlier x b d es k (Acts.further_enters a fs o) = absurd (no_falsity k)

    run_calm : (own : C) (uses : Uses C N) (b d : Bool) (es : List (Event C N)) → IsCalm own uses → Runs own uses b es d → OnlyStatics es
    run_calm own uses b d es k (Runs.ends a) = tt
    run_calm own uses b d es k (Runs.acts x a c e fs gs among act more) = only_append fs gs (act_calm own k.0 x a c fs (among (calm_use same (same_class own) k.0) k.1) act) (run_calm own uses c e gs k more)

    abbrev AllCalm : C → List (Done C N) → Type 0
    AllCalm own [] = Unit {0}
    AllCalm own (Stores name uses ∷ ds) = IsCalm own uses × AllCalm own ds
    AllCalm own (Does uses ∷ ds) = IsCalm own uses × AllCalm own ds

    initializers_calm : (own : C) (ds : List (Done C N)) (b d : Bool) (es : List (Event C N)) → AllCalm own ds → Initializes own ds b es d → OnlyStatics es
    initializers_calm own ds b d es k (Initializes.ends rest a) = tt
    initializers_calm own ds b d es k (Initializes.breaks name uses rest a c fs run) = run_calm own uses a c fs k.0 run
    initializers_calm own ds b d es k (Initializes.stores name uses rest a c e fs gs run more) = only_append fs (Stored own name ∷ gs) (run_calm own uses a c fs k.0 run) (initializers_calm own rest c e gs k.1 more)
    initializers_calm own ds b d es k (Initializes.does uses rest a c e fs gs run more) = only_append fs gs (run_calm own uses a c fs k.0 run) (initializers_calm own rest c e gs k.1 more)

    -- what a language makes of a default that doesn't lead is calm
    abbrev OneCalm : C → Done C N → Type 0
    OneCalm own (Stores name uses) = IsCalm own uses
    OneCalm own (Does uses) = IsCalm own uses

    more_calm : (own : C) (x : Done C N) (ds : List (Done C N)) → OneCalm own x → AllCalm own ds → AllCalm own (x ∷ ds)
    more_calm own (Stores name uses) ds h k = (h, k)
    more_calm own (Does uses) ds h k = (h, k)

    module _ (own : C) (r : Reading C N) (default_calm : (name : N) → OneCalm own (r.default_does name)) (late_calm : (name : N) → OneCalm own (r.late_does name)) where
      abbrev test : (N → Bool) → Use C N → Bool
      test earlier = calm_use same (same_class own) earlier

      done_calm : (leads : Bool) (earlier : N → Bool) (items : List (Item C N)) → calm_items same (same_class own) earlier items ≡ true → AllCalm own (done r leads items)
      done_calm leads earlier [] h = tt
      done_calm leads earlier (Unset name ∷ items) h = done_calm (leads && true) _ items h
      done_calm leads earlier (Declared name ∷ items) h = done_calm (leads && true) _ items h
      done_calm leads earlier (Constant name is_default ∷ items) h = done_calm (leads && is_default) _ items h
      done_calm true earlier (Default name ∷ items) h = done_calm true _ items h
      done_calm false earlier (Default name ∷ items) h = more_calm own _ _ (default_calm name) (done_calm false _ items h)
      done_calm leads earlier (Late name ∷ items) h = more_calm own _ _ (late_calm name) (done_calm (leads && false) _ items h)
      done_calm leads earlier (Given name uses ∷ items) h = ((earlier, and_left (uses (test earlier)) _ h), done_calm (leads && false) _ items (and_right (uses (test earlier)) _ h))
      done_calm leads earlier (Block uses ∷ items) h = ((earlier, and_left (uses (test earlier)) _ h), done_calm (leads && false) _ items (and_right (uses (test earlier)) _ h))

    module _ (classes : List (Class C N)) (does : Class C N → List (Done C N)) (own_calm : Class C N → Bool) (calm_does : (x : Class C N) → own_calm x ≡ true → AllCalm x.name (does x)) where
      mutual
        initialization_calm : (n : ℕ) (c : C) (es : List (Event C N)) → throughout same_class own_calm classes n c ≡ true → Initialization same_class classes does c es → OnlyStatics es
        initialization_calm n c es h (Initialization.unlisted a is) = tt
        initialization_calm zero c es h (Initialization.begins a x d fs gs is up run) = absurd (no_falsity h)
        initialization_calm (suc n) c es h (Initialization.begins a x d fs gs is up run) =
            let own : (own_calm x && above_by (throughout same_class own_calm classes n) x.above) ≡ true = found same_class own_calm classes n a x is h in
            only_append fs gs (above_calm n x.above fs (and_right (own_calm x) _ own) up) (initializers_calm x.name (does x) false d gs (calm_does x (and_left (own_calm x) _ own)) run)

        above_calm : (n : ℕ) (o : Option C) (es : List (Event C N)) → above_by (throughout same_class own_calm classes n) o ≡ true → Above same_class classes does o es → OnlyStatics es
        above_calm n o es h Above.none = tt
        above_calm n o es h (Above.already a) = tt
        above_calm n o es h (Above.first a fs run) = initialization_calm n a fs h run

    -- In Java and rest it is laid out: the initializers of a calm class run no other text, and begin no other class's initialization.
    pub java_calm : (classes : List (Class C N)) (leads : Class C N → Bool) (n : ℕ) (c : C) (es : List (Event C N)) → calm same_class same (in_java same_class same) classes n c ≡ true → Initialization same_class classes (λ x. done (java (stores_static x.name)) (leads x) x.statics) c es → OnlyStatics es
    java_calm classes leads = initialization_calm classes (λ x. done (java (stores_static x.name)) (leads x) x.statics) (in_java same_class same).is_calm
        (λ x h. done_calm x.name (java (stores_static x.name)) (λ name. (no_name, T.self x.name)) (λ name. (no_name, T.self x.name)) (leads x) _ x.statics h)

    pub kotlin_calm : (classes : List (Class C N)) (leads : Class C N → Bool) (n : ℕ) (c : C) (es : List (Event C N)) → calm same_class same (in_kotlin same_class same) classes n c ≡ true → Initialization same_class classes (λ x. done (kotlin (stores_static x.name)) (leads x) x.statics) c es → OnlyStatics es
    kotlin_calm classes leads = initialization_calm classes (λ x. done (kotlin (stores_static x.name)) (leads x) x.statics) (in_kotlin same_class same).is_calm
        (λ x h. done_calm x.name (kotlin (stores_static x.name)) (λ name. (no_name, refl)) (λ name. (no_name, T.self x.name)) (leads x) _ x.statics h)

    -- ---- what stands earlier

    abbrev OwnEarlier : C → (N → Bool) → C → N → Type 0
    OwnEarlier own earlier c f = (same_class own c && earlier f) ≡ true

    reads_append : (These : C → N → Type 0) (es fs : List (Event C N)) → ReadsOf These es → ReadsOf These fs → ReadsOf These (es ++ fs)
    reads_append These [] fs h k = k
    reads_append These (Fetches c f ∷ es) fs h k = (h.0, reads_append These es fs h.1 k)
    reads_append These (Stored c f ∷ es) fs h k = reads_append These es fs h k
    reads_append These (Begins c ∷ es) fs h k = reads_append These es fs h k
    reads_append These (Enters ∷ es) fs h k = reads_append These es fs h k
    reads_append These (OwnField ∷ es) fs h k = reads_append These es fs h k
    reads_append These (Shows ∷ es) fs h k = reads_append These es fs h k
    reads_append These (Meets ∷ es) fs h k = reads_append These es fs h k

    act_earlier : (own : C) (earlier : N → Bool) (x : Use C N) (b d : Bool) (es : List (Event C N)) → calm_use same (same_class own) earlier x ≡ true → Acts own x b es d → ReadsOf (OwnEarlier own earlier) es
    act_earlier own earlier x b d es k (Acts.reads c f a) = (k, tt)
    act_earlier own earlier x b d es k (Acts.writes c f a) = tt
    act_earlier own earlier x b d es k (Acts.reads_first c f a fs other o) = absurd (not_both (same_class own c) (and_left (same_class own c) (earlier f) k) (T.apart own c other))
    act_earlier own earlier x b d es k (Acts.writes_first c f a fs other o) = absurd (not_both (same_class own c) k (T.apart own c other))
    act_earlier own earlier x b d es k (Acts.calls c m a fs o) = absurd (no_falsity k)
    act_earlier own earlier x b d es k (Acts.calls_first c m a fs o) = absurd (no_falsity k)
    act_earlier own earlier x b d es k (Acts.this_field a) = tt
    act_earlier own earlier x b d es k (Acts.this a) = tt
    act_earlier own earlier x b d es k (Acts.further a) = tt
    act_earlier own earlier x b d es k (Acts.further_enters a fs o) = absurd (no_falsity k)

    run_earlier : (own : C) (earlier : N → Bool) (uses : Uses C N) (b d : Bool) (es : List (Event C N)) → uses (calm_use same (same_class own) earlier) ≡ true → Runs own uses b es d → ReadsOf (OwnEarlier own earlier) es
    run_earlier own earlier uses b d es k (Runs.ends a) = tt
    run_earlier own earlier uses b d es k (Runs.acts x a c e fs gs among act more) = reads_append (OwnEarlier own earlier) fs gs (act_earlier own earlier x a c fs (among (calm_use same (same_class own) earlier) k) act) (run_earlier own earlier uses c e gs k more)

    item_calm : (own : C) (earlier : N → Bool) (x : Item C N) → calm_item same (same_class own) earlier x ≡ true → item_uses x (calm_use same (same_class own) earlier) ≡ true
    item_calm own earlier (Unset name) h = refl
    item_calm own earlier (Declared name) h = refl
    item_calm own earlier (Constant name is_default) h = refl
    item_calm own earlier (Default name) h = refl
    item_calm own earlier (Late name) h = refl
    item_calm own earlier (Given name uses) h = h
    item_calm own earlier (Block uses) h = h

    item_at : (own : C) (earlier : N → Bool) (before : List (Item C N)) (x : Item C N) (after : List (Item C N)) → calm_items same (same_class own) earlier (before ++ x ∷ after) ≡ true → calm_item same (same_class own) (behind same (same_class own) before earlier) x ≡ true
    item_at own earlier [] x after h = and_left _ _ h
    item_at own earlier (y ∷ before) x after h = item_at own (passed same (same_class own) y earlier) before x after (and_right (calm_item same (same_class own) earlier y) _ h)

    -- A run of a calm initializer reads only own statics that stand before it, or that count rest earlier than all.
    pub calm_reads_earlier : (own : C) (earlier : N → Bool) (before : List (Item C N)) (x : Item C N) (after : List (Item C N)) (b d : Bool) (es : List (Event C N)) →
        calm_items same (same_class own) earlier (before ++ x ∷ after) ≡ true → Runs own (item_uses x) b es d → ReadsOf (OwnEarlier own (behind same (same_class own) before earlier)) es
    calm_reads_earlier own earlier before x after b d es h run = run_earlier own (behind same (same_class own) before earlier) (item_uses x) b d es (item_calm own _ x (item_at own earlier before x after h)) run

  -- ---- idle

  initializers_idle : (own : C) (ds : List (Done C N)) (b d : Bool) (es : List (Event C N)) → nothing_done ds ≡ true → Initializes own ds b es d → es ≡ []
  initializers_idle own ds b d es h (Initializes.ends rest a) = refl
  initializers_idle own ds b d es h (Initializes.breaks name uses rest a c fs run) = absurd (no_falsity h)
  initializers_idle own ds b d es h (Initializes.stores name uses rest a c e fs gs run more) = absurd (no_falsity h)
  initializers_idle own ds b d es h (Initializes.does uses rest a c e fs gs run more) = absurd (no_falsity h)

  module _ (same_class : C → C → Bool) (classes : List (Class C N)) (does : Class C N → List (Done C N)) where
    mutual
      -- The initialization of an idle class does nothing.
      pub idle_does_nothing : (n : ℕ) (c : C) (es : List (Event C N)) → throughout same_class (λ x. nothing_done (does x)) classes n c ≡ true → Initialization same_class classes does c es → es ≡ []
      idle_does_nothing n c es h (Initialization.unlisted a is) = refl
      idle_does_nothing zero c es h (Initialization.begins a x d fs gs is up run) = absurd (no_falsity h)
      idle_does_nothing (suc n) c es h (Initialization.begins a x d fs gs is up run) =
          let own : (nothing_done (does x) && above_by (throughout same_class (λ y. nothing_done (does y)) classes n) x.above) ≡ true = found same_class (λ y. nothing_done (does y)) classes n a x is h in
          nothing_more fs gs (above_idle n x.above fs (and_right (nothing_done (does x)) _ own) up) (initializers_idle x.name (does x) false d gs (and_left (nothing_done (does x)) _ own) run)

      above_idle : (n : ℕ) (o : Option C) (es : List (Event C N)) → above_by (throughout same_class (λ x. nothing_done (does x)) classes n) o ≡ true → Above same_class classes does o es → es ≡ []
      above_idle n o es h Above.none = refl
      above_idle n o es h (Above.already a) = refl
      above_idle n o es h (Above.first a fs run) = idle_does_nothing n a fs h run
