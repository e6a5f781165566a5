-- What each answer does to a world that is Ok.
use Rattle.std.proofs.Common.{◌≡◌, ℕ, zero, suc, ◌<◌, Bool, true, false, List, [], ◌∷◌, ◌++◌, length, Some, slice_get, slice_set, slice_index_or, refl, sym, ◌∙◌, ap, subst, if◌then◌else◌}
use Rattle.meanings.specs.Values.{ClassName, Field, same_field, Value, Null}
use Rattle.meanings.specs.World.{World, ClassState, IsReady, state_of, content_at, with_object, stored, no_content}
use Rattle.meanings.specs.Library.{Content}
use Rattle.meanings.specs.Static.{KType}
use Rattle.meanings.specs.Tables.{Table, Made, AnInstance, AnArrayFor, Known, is_stored, fields_at, elements_at, Later, Ok, Has, ArrayOk, Moved}
use Rattle.meanings.proofs.SameValues.{same_field_true, same_field_self}
use Rattle.meanings.proofs.Lists.{length_snoc, get_snoc, get_within, SnocAt, before, last, snoc_at, read_snoc, read_last, length_set, read_set, SetAt, here, other, set_at}
use Rattle.meanings.proofs.KnownLaws.{later_self, has_later}

-- ---- a new object, in which no field is stored

snoc_fields : (heap : List Content) (c : Content) (k : ℕ) → c.fields ≡ [] → (content_at (heap ++ c ∷ []) (Some k)).fields ≡ (content_at heap (Some k)).fields
snoc_fields [] c zero e = e
snoc_fields [] c (suc k) e = refl
snoc_fields (x ∷ heap) c zero e = refl
snoc_fields (x ∷ heap) c (suc k) e = snoc_fields heap c k e

abbrev pub one_more : Known → Made → World → Known
one_more K m w = record { shapes = K.shapes ++ m ∷ []; world = w }

pub record FreshArray (t : Table) (K : Known) (m : Made) (c : Content) : Type 0 where
  pub by : (type : KType) (size : ℕ) → m ≡ AnArrayFor type size → (length c.elements ≡ size) × ((j : ℕ) → j < size → Has t K (slice_index_or c.elements j Null) type)

module _ (t : Table) where
  made_later : (K : Known) (m : Made) (c : Content) → c.fields ≡ [] → Later K (one_more K m (with_object K.world c))
  made_later K m c e = record {
    shapes = λ k x h. get_snoc K.shapes m k x h;
    fields = λ k f h. ap (λ fs. is_stored fs f) (snoc_fields K.world.heap c k e) ∙ h;
    statics = λ f h. h;
  }

  old_array : (K : Known) (m : Made) (c : Content) (e : c.fields ≡ []) → Ok t K → (k : ℕ) (type : KType) (size : ℕ) → slice_get K.shapes k ≡ Some (AnArrayFor type size) → ArrayOk t (one_more K m (with_object K.world c)) k type size
  old_array K m c e ok k type size h =
      let within : k < length K.world.heap = subst (λ (n : ℕ). k < n) ok.size (get_within K.shapes k _ h) in
      let same : (content_at (K.world.heap ++ c ∷ []) (Some k)) ≡ content_at K.world.heap (Some k) = read_snoc K.world.heap c k _ within in
      let old : ArrayOk t K k type size = ok.arrays k type size h in
      record {
        count = ap (λ (x : Content). length x.elements) same ∙ old.count;
        each = λ j l. subst (λ (x : Content). Has t (one_more K m (with_object K.world c)) (slice_index_or x.elements j Null) type) (sym same) (has_later t (made_later K m c e) _ type (old.each j l));
      }

  new_array : (K : Known) (m : Made) (c : Content) (e : c.fields ≡ []) → Ok t K → FreshArray t K m c → (k : ℕ) (type : KType) (size : ℕ) → SnocAt K.shapes m k (AnArrayFor type size) → ArrayOk t (one_more K m (with_object K.world c)) k type size
  new_array K m c e ok fresh k type size (before h) = old_array K m c e ok k type size h
  new_array K m c e ok fresh k type size (last is h) =
      let same : content_at (K.world.heap ++ c ∷ []) (Some k) ≡ c = subst (λ (j : ℕ). content_at (K.world.heap ++ c ∷ []) (Some j) ≡ c) (sym (is ∙ ok.size)) (read_last K.world.heap c _) in
      record {
        count = ap (λ (x : Content). length x.elements) same ∙ (fresh.by type size h).0;
        each = λ j l. subst (λ (x : Content). Has t (one_more K m (with_object K.world c)) (slice_index_or x.elements j Null) type) (sym same) (has_later t (made_later K m c e) _ type ((fresh.by type size h).1 j l));
      }

  pub made_moved : (K : Known) (m : Made) (c : Content) → c.fields ≡ [] → Ok t K → FreshArray t K m c → Moved t K (one_more K m (with_object K.world c))
  made_moved K m c e ok fresh = record {
    later = made_later K m c e;
    ok = record {
      size = length_snoc K.shapes m ∙ ap suc ok.size ∙ sym (length_snoc K.world.heap c);
      defaults = ok.defaults;
      fields = λ k f other h.
          let same : fields_at (one_more K m (with_object K.world c)) k ≡ fields_at K k = snoc_fields K.world.heap c k e in
          subst (λ (fs : List (Field × Value)). Has t (one_more K m (with_object K.world c)) (stored fs f other) (t.field_type f)) (sym same)
          (has_later t (made_later K m c e) _ (t.field_type f) (ok.fields k f other (sym (ap (λ fs. is_stored fs f) same) ∙ h)));
      statics = λ f other h. has_later t (made_later K m c e) _ (t.static_type f) (ok.statics f other h);
      arrays = λ k type size h. new_array K m c e ok fresh k type size (snoc_at K.shapes m k _ h);
      ready = ok.ready;
    };
  }

-- ---- a store

abbrev pub same_shapes : Known → World → Known
same_shapes K w = record { shapes = K.shapes; world = w }

still_stored : (b : Bool) (rest : Bool) → rest ≡ true → (if b then true else rest) ≡ true
still_stored true rest h = refl
still_stored false rest h = h

abbrev pub put_at : Known → ℕ → Field → Value → Content
put_at K k f new = record (content_at K.world.heap (Some k)) { fields = (f, new) ∷ fields_at K k }

abbrev pub heap_put : Known → ℕ → Content → Known
heap_put K k c = same_shapes K (record K.world { heap = slice_set K.world.heap k c })

module _ (t : Table) where
  put_later : (K : Known) (k : ℕ) (f : Field) (new : Value) → Later K (heap_put K k (put_at K k f new))
  put_later K k f new = record {
    shapes = λ k x h. h;
    fields = λ j g h. fields_put j g h (set_at K.world.heap k (put_at K k f new) j no_content);
    statics = λ f h. h;
  } where
    fields_put : (j : ℕ) (g : Field) → is_stored (fields_at K j) g ≡ true → SetAt K.world.heap k (put_at K k f new) j no_content → is_stored (fields_at (heap_put K k (put_at K k f new)) j) g ≡ true
    fields_put j g h (here is e) = ap (λ (x : Content). is_stored x.fields g) e ∙ still_stored (same_field f g) _ (subst (λ (j : ℕ). is_stored (fields_at K j) g ≡ true) is h)
    fields_put j g h (other e) = ap (λ (x : Content). is_stored x.fields g) e ∙ h

  put_has : (K : Known) (types : Field → KType) (f g : Field) (new def : Value) (fs : List (Field × Value)) (b : Bool) → same_field f g ≡ b → Has t K new (types f) → (is_stored fs g ≡ true → Has t K (stored fs g def) (types g))
      → (if b then true else is_stored fs g) ≡ true → Has t K (if b then new else stored fs g def) (types g)
  put_has K types f g new def fs true same has old h = subst (λ (x : Field). Has t K new (types x)) (same_field_true f g same) has
  put_has K types f g new def fs false same has old h = old h

  put_fields : (K : Known) (k : ℕ) (f : Field) (new : Value) → Ok t K → Has t K new (t.field_type f) → (j : ℕ) (g : Field) (def : Value) → SetAt K.world.heap k (put_at K k f new) j no_content
      → is_stored (fields_at (heap_put K k (put_at K k f new)) j) g ≡ true → Has t (heap_put K k (put_at K k f new)) (stored (fields_at (heap_put K k (put_at K k f new)) j) g def) (t.field_type g)
  put_fields K k f new ok has j g def (here is e) h =
      let K' : Known = heap_put K k (put_at K k f new) in
      subst (λ (x : Content). Has t K' (stored x.fields g def) (t.field_type g)) (sym e)
      (put_has K' t.field_type f g new def (fields_at K k) (same_field f g) refl (has_later t (put_later K k f new) new (t.field_type f) has)
      (λ i. has_later t (put_later K k f new) _ (t.field_type g) (ok.fields k g def i)) (sym (ap (λ (x : Content). is_stored x.fields g) e) ∙ h))
  put_fields K k f new ok has j g def (other e) h =
      let K' : Known = heap_put K k (put_at K k f new) in
      subst (λ (x : Content). Has t K' (stored x.fields g def) (t.field_type g)) (sym e)
      (has_later t (put_later K k f new) _ (t.field_type g) (ok.fields j g def (sym (ap (λ (x : Content). is_stored x.fields g) e) ∙ h)))

  same_elements_at : (K : Known) (k : ℕ) (f : Field) (new : Value) (j : ℕ) → SetAt K.world.heap k (put_at K k f new) j no_content → elements_at (heap_put K k (put_at K k f new)) j ≡ elements_at K j
  same_elements_at K k f new j (here is e) = ap (λ (x : Content). x.elements) e ∙ ap (elements_at K) (sym is)
  same_elements_at K k f new j (other e) = ap (λ (x : Content). x.elements) e

  pub put_moved : (K : Known) (k : ℕ) (f : Field) (new : Value) → Ok t K → Has t K new (t.field_type f) → Moved t K (heap_put K k (put_at K k f new))
  put_moved K k f new ok has =
      let K' : Known = heap_put K k (put_at K k f new) in
      record {
        later = put_later K k f new;
        ok = record {
          size = ok.size ∙ sym (length_set K.world.heap k _);
          defaults = ok.defaults;
          fields = λ j g def h. put_fields K k f new ok has j g def (set_at K.world.heap k _ j _) h;
          statics = λ g def h. has_later t (put_later K k f new) _ (t.static_type g) (ok.statics g def h);
          arrays = λ j type size h.
              let same : elements_at K' j ≡ elements_at K j = same_elements_at K k f new j (set_at K.world.heap k _ j _) in
              let old : ArrayOk t K j type size = ok.arrays j type size h in
              record {
                count = ap length same ∙ old.count;
                each = λ i l. subst (λ (vs : List Value). Has t K' (slice_index_or vs i Null) type) (sym same) (has_later t (put_later K k f new) _ type (old.each i l));
              };
          ready = ok.ready;
        };
      }

  -- the new field is stored
  pub put_stored : (K : Known) (k : ℕ) (f : Field) (new : Value) → k < length K.world.heap → is_stored (fields_at (heap_put K k (put_at K k f new)) k) f ≡ true
  put_stored K k f new within = ap (λ (x : Content). is_stored x.fields f) (read_set K.world.heap k _ _ within) ∙ stored_now (same_field f f) (same_field_self f) where
    stored_now : (b : Bool) → b ≡ true → (if b then true else is_stored (fields_at K k) f) ≡ true
    stored_now true e = refl
    stored_now false e = cc

  -- ---- a static

  abbrev pub static_put : Known → Field → Value → Known
  static_put K f new = same_shapes K (record K.world { statics = (f, new) ∷ K.world.statics })

  static_later : (K : Known) (f : Field) (new : Value) → Later K (static_put K f new)
  static_later K f new = record { shapes = λ k x h. h; fields = λ j g h. h; statics = λ g h. still_stored (same_field f g) _ h }

  pub static_moved : (K : Known) (f : Field) (new : Value) → Ok t K → Has t K new (t.static_type f) → Moved t K (static_put K f new)
  static_moved K f new ok has =
      let K' : Known = static_put K f new in
      record {
        later = static_later K f new;
        ok = record {
          size = ok.size;
          defaults = ok.defaults;
          fields = λ j g def h. has_later t (static_later K f new) _ (t.field_type g) (ok.fields j g def h);
          statics = λ g def h. put_has K' t.static_type f g new def K.world.statics (same_field f g) refl (has_later t (static_later K f new) new (t.static_type f) has) (λ i. has_later t (static_later K f new) _ (t.static_type g) (ok.statics g def i)) h;
          arrays = λ j type size h.
              let old : ArrayOk t K j type size = ok.arrays j type size h in
              record { count = old.count; each = λ i l. has_later t (static_later K f new) _ type (old.each i l) };
          ready = λ class e g h. still_stored (same_field f g) _ (ok.ready class e g h);
        };
      }

  pub static_stored : (K : Known) (f : Field) (new : Value) → is_stored (static_put K f new).world.statics f ≡ true
  static_stored K f new = stored_now (same_field f f) (same_field_self f) where
    stored_now : (b : Bool) → b ≡ true → (if b then true else is_stored K.world.statics f) ≡ true
    stored_now true e = refl
    stored_now false e = cc

  -- ---- an element

  abbrev pub elem_at : Known → ℕ → ℕ → Value → Content
  elem_at K k j new = record (content_at K.world.heap (Some k)) { elements = slice_set (elements_at K k) j new }

  same_fields_at : (K : Known) (k j : ℕ) (new : Value) (i : ℕ) → SetAt K.world.heap k (elem_at K k j new) i no_content → fields_at (heap_put K k (elem_at K k j new)) i ≡ fields_at K i
  same_fields_at K k j new i (here is e) = ap (λ (x : Content). x.fields) e ∙ ap (fields_at K) (sym is)
  same_fields_at K k j new i (other e) = ap (λ (x : Content). x.fields) e

  elem_later : (K : Known) (k j : ℕ) (new : Value) → Later K (heap_put K k (elem_at K k j new))
  elem_later K k j new = record {
    shapes = λ k x h. h;
    fields = λ i g h. ap (λ fs. is_stored fs g) (same_fields_at K k j new i (set_at K.world.heap k _ i _)) ∙ h;
    statics = λ f h. h;
  }

  elem_each : (K : Known) (type : KType) (j : ℕ) (new : Value) (vs : List Value) (i : ℕ) → Has t K new type → Has t K (slice_index_or vs i Null) type → SetAt vs j new i Null → Has t K (slice_index_or (slice_set vs j new) i Null) type
  elem_each K type j new vs i has old (here is e) = subst (λ (v : Value). Has t K v type) (sym e) has
  elem_each K type j new vs i has old (other e) = subst (λ (v : Value). Has t K v type) (sym e) old

  some_made : (a b : Made) → Some a ≡ Some b → a ≡ b
  some_made a b e = cc

  abbrev array_of : KType → ℕ → Made → KType
  array_of type size (AnArrayFor own n) = own
  array_of type size (AnInstance class) = type

  elem_array : (K : Known) (k j : ℕ) (new : Value) (own : KType) (n : ℕ) → Ok t K → slice_get K.shapes k ≡ Some (AnArrayFor own n) → Has t K new own → (i : ℕ) (type : KType) (size : ℕ) → slice_get K.shapes i ≡ Some (AnArrayFor type size)
      → SetAt K.world.heap k (elem_at K k j new) i no_content → ArrayOk t (heap_put K k (elem_at K k j new)) i type size
  elem_array K k j new own n ok shape has i type size h (here is e) =
      let K' : Known = heap_put K k (elem_at K k j new) in
      let old : ArrayOk t K i type size = ok.arrays i type size h in
      let same : elements_at K' i ≡ slice_set (elements_at K i) j new = ap (λ (x : Content). x.elements) e ∙ ap (λ i. slice_set (elements_at K i) j new) (sym is) in
      let shapes : Some (AnArrayFor own n) ≡ Some (AnArrayFor type size) = sym shape ∙ ap (slice_get K.shapes) (sym is) ∙ h in
      let types : own ≡ type = ap (array_of own n) (some_made _ _ shapes) in
      record {
        count = ap length same ∙ length_set _ j new ∙ old.count;
        each = λ x l. subst (λ (vs : List Value). Has t K' (slice_index_or vs x Null) type) (sym same)
            (has_later t (elem_later K k j new) _ type (elem_each K type j new (elements_at K i) x (subst (λ (a : KType). Has t K new a) types has) (old.each x l) (set_at _ j new x Null)));
      }
  elem_array K k j new own n ok shape has i type size h (other e) =
      let K' : Known = heap_put K k (elem_at K k j new) in
      let old : ArrayOk t K i type size = ok.arrays i type size h in
      let same : elements_at K' i ≡ elements_at K i = ap (λ (x : Content). x.elements) e in
      record {
        count = ap length same ∙ old.count;
        each = λ x l. subst (λ (vs : List Value). Has t K' (slice_index_or vs x Null) type) (sym same) (has_later t (elem_later K k j new) _ type (old.each x l));
      }

  pub elem_moved : (K : Known) (k j : ℕ) (new : Value) (own : KType) (n : ℕ) → Ok t K → slice_get K.shapes k ≡ Some (AnArrayFor own n) → Has t K new own → Moved t K (heap_put K k (elem_at K k j new))
  elem_moved K k j new own n ok shape has =
      let K' : Known = heap_put K k (elem_at K k j new) in
      record {
        later = elem_later K k j new;
        ok = record {
          size = ok.size ∙ sym (length_set K.world.heap k _);
          defaults = ok.defaults;
          fields = λ i g def h.
              let same : fields_at K' i ≡ fields_at K i = same_fields_at K k j new i (set_at K.world.heap k _ i _) in
              subst (λ (fs : List (Field × Value)). Has t K' (stored fs g def) (t.field_type g)) (sym same)
              (has_later t (elem_later K k j new) _ (t.field_type g) (ok.fields i g def (sym (ap (λ fs. is_stored fs g) same) ∙ h)));
          statics = λ g def h. has_later t (elem_later K k j new) _ (t.static_type g) (ok.statics g def h);
          arrays = λ i type size h. elem_array K k j new own n ok shape has i type size h (set_at K.world.heap k _ i _);
          ready = ok.ready;
        };
      }

  -- ---- classes, and whatever else no fact speaks of

  abbrev pub with_classes : Known → List (ClassName × ClassState) → Known
  with_classes K classes = same_shapes K (record K.world { classes = classes })

  pub classes_moved : (K : Known) (classes : List (ClassName × ClassState)) → Ok t K
      → ((class : ClassName) → state_of classes class ≡ IsReady → (f : Field) → t.needs_static class f ≡ true → is_stored K.world.statics f ≡ true)
      → Moved t K (with_classes K classes)
  classes_moved K classes ok ready =
      let le : Later K (with_classes K classes) = record { shapes = λ k x h. h; fields = λ j g h. h; statics = λ g h. h } in
      record {
        later = le;
        ok = record {
          size = ok.size;
          defaults = ok.defaults;
          fields = λ j g def h. has_later t le _ (t.field_type g) (ok.fields j g def h);
          statics = λ g def h. has_later t le _ (t.static_type g) (ok.statics g def h);
          arrays = λ j type size h.
              let old : ArrayOk t K j type size = ok.arrays j type size h in
              record { count = old.count; each = λ i l. has_later t le _ type (old.each i l) };
          ready = ready;
        };
      }

  pub stays_moved : (K : Known) → Ok t K → Moved t K K
  stays_moved K ok = record { ok = ok; later = later_self K }
