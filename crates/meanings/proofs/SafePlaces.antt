-- Reads and stores of places are sound: what is read at a place that was stored, or isn't required, is of its type.
use Rattle.std.proofs.Common.{◌≡◌, inl, ℕ, zero, suc, ◌<◌, ℤ, pos, negsuc, Bool, true, false, ◌&&◌, List, [], ◌∷◌, Some, slice_get, refl, sym, ◌∙◌, ap, subst, if◌then◌else◌}
use Rattle.std.specs.Prelude.{codes, nat_lt}
use Rattle.std.proofs.lemmas.Bool.{ltb-true}
use Rattle.meanings.specs.Values.{Name, ClassName, Field, same_field, Value, Null, Object, Array, Captured, Elements, Step, Get, Put, GetStatic, PutStatic, GetElem, PutElem, Answer, is_null, integer_in, is_true}
use Rattle.meanings.specs.Outcome.{Locals, Exit, Jump, Exits, Returns, Throws, Jumps, Meaning, pure, torn, pay}
use Rattle.meanings.specs.Machine.{ask_value, ask_done, raise, check_null, get_field, put_field, get_static, put_static, index_in, get_element, put_element, caught, catch, turns, loop, is_break, is_continue}
use Rattle.meanings.specs.World.{World, stored, stored_or_default}
use Rattle.meanings.specs.Static.{KType, IntType, StringType, ClassType, ArrayType, Nullable, is_non_null}
use Rattle.meanings.specs.Kotlin.{used}
use Rattle.meanings.specs.Tables.{Table, Fits, TypedDefaults, Made, AnInstance, AnArrayFor, Known, is_stored, fields_at, Later, Ok, Has, IsInstance, IsArray, Moved}
use Rattle.meanings.specs.Safety.{Safe, gives, jumps, is_busy, Sound}
use Rattle.meanings.proofs.Lists.{get_within}
use Rattle.meanings.proofs.KnownLaws.{later_on, has_later}
use Rattle.meanings.proofs.WorldLaws.{same_shapes, heap_put, put_at, put_moved, put_stored, static_put, static_moved, static_stored, elem_moved, stays_moved}
use Rattle.meanings.proofs.SafeLaws.{after_safe, bind_sound, pure_sound, busy_sound, weaken}
use Rattle.meanings.proofs.SafeSteps.{as_it_was, Lasting, Thrown, Left, Answers, OfValue, value_sound, done_sound, raise_sound, reply_is}

-- ---- null and types

pub non_null : (t : Table) (K : Known) (v : Value) (type : KType) → Has t K v type → (is_non_null type && is_null v) ≡ false
non_null t K v IntType h = ap is_null h.is
non_null t K v StringType h = ap is_null h.is
non_null t K v (ClassType class) h = ap is_null h.is
non_null t K v (ArrayType type) h = ap is_null h.is
non_null t K v (Nullable type) h = refl

pub fits_has : (t : Table) (K : Known) (v : Value) (type : KType) → Fits v type → Has t K v type
fits_has t K v IntType h = record { kind = h.0; whole = h.1; is = h.2 }
fits_has t K v (Nullable type) h = inl h
fits_has t K v (ClassType class) h = absurd h
fits_has t K v StringType h = absurd h
fits_has t K v (ArrayType type) h = absurd h

unstored_by : (b : Bool) (v def : Value) (rest : Bool) (found : Value) → (rest ≡ false → found ≡ def) → (if b then true else rest) ≡ false → (if b then v else found) ≡ def
unstored_by true v def rest found more e = cc
unstored_by false v def rest found more e = more e

unstored : (fs : List (Field × Value)) (f : Field) (def : Value) → is_stored fs f ≡ false → stored fs f def ≡ def
unstored [] f def e = refl
unstored (g ∷ fs) f def e = unstored_by (same_field g.0 f) g.1 def (is_stored fs f) (stored fs f def) (unstored fs f def) e

-- a place gives what was stored, or its default, which is of its type unless the place is required
place_has : (t : Table) (K : Known) (fs : List (Field × Value)) (f : Field) (type : KType) (b c : Bool) → is_stored fs f ≡ c → (b ≡ true → is_stored fs f ≡ true) → (b ≡ false → Fits (stored t.defaults f Null) type) → K.world.defaults ≡ t.defaults
    → ((def : Value) → is_stored fs f ≡ true → Has t K (stored fs f def) type) → Has t K (stored_or_default K.world fs f) type
place_has t K fs f type b true s need fits defaults has = has _ s
place_has t K fs f type true false s need fits defaults has = let no : false ≡ true = sym s ∙ need refl in cc
place_has t K fs f type false false s need fits defaults has =
    subst (λ (v : Value). Has t K v type) (sym (unstored fs f _ s ∙ ap (λ (ds : List (Field × Value)). stored ds f Null) defaults)) (fits_has t K _ type (fits refl))

field_has : (t : Table) → TypedDefaults t → (K : Known) (k : ℕ) (f : Field) → Ok t K → (t.required f ≡ true → is_stored (fields_at K k) f ≡ true) → Has t K (stored_or_default K.world (fields_at K k) f) (t.field_type f)
field_has t typed K k f ok need = place_has t K (fields_at K k) f (t.field_type f) (t.required f) (is_stored (fields_at K k) f) refl need (typed.fields f) ok.defaults (ok.fields k f)

static_has : (t : Table) → TypedDefaults t → (K : Known) (f : Field) → Ok t K → (t.static_required f ≡ true → is_stored K.world.statics f ≡ true) → Has t K (stored_or_default K.world K.world.statics f) (t.static_type f)
static_has t typed K f ok need = place_has t K K.world.statics f (t.static_type f) (t.static_required f) (is_stored K.world.statics f) refl need (typed.statics f) ok.defaults (ok.statics f)

module _ (t : Table) (i : ℕ) where
  module _ (B : Known → Type 0) (lasting : Lasting t i B) where
    used_by : {K : Known} (v : Value) (type : KType) (l l' : Locals) (n : ℕ) (b : Bool) → b ≡ false → l' ≡ l → B K → Has t K v type → Sound t i (Left t i B l (λ K' u. Has t K' u type)) (Thrown t i B) K (if b then torn else pure v) l' n
    used_by v type l l' n true e same base h = cc
    used_by v type l l' n false e same base h = pure_sound t i (same, base, h)

    -- a value of its place's type is used
    pub used_sound : {K : Known} (v : Value) (type : KType) (l l' : Locals) (n : ℕ) → l' ≡ l → B K → Has t K v type → Sound t i (Left t i B l (λ K' u. Has t K' u type)) (Thrown t i B) K (used (Some type) v) l' n
    used_sound {K} v type l l' n same base h = used_by v type l l' n _ (non_null t K v type h) same base h

    check_by : {K : Known} (v : Value) (l l' : Locals) (n : ℕ) (b : Bool) → is_null v ≡ b → l' ≡ l → B K → Sound t i (Left t i B l (λ K' u. is_null v ≡ false)) (Thrown t i B) K (if b then raise (codes "NullPointerException") else pure (tt {0})) l' n
    check_by v l l' n true e same base = raise_sound t i B lasting l' n _ base
    check_by v l l' n false e same base = pure_sound t i (same, base, e)

    pub check_sound : {K : Known} (v : Value) (l l' : Locals) (n : ℕ) → l' ≡ l → B K → Sound t i (Left t i B l (λ K' u. is_null v ≡ false)) (Thrown t i B) K (check_null v) l' n
    check_sound v l l' n same base = check_by v l l' n (is_null v) refl same base

    -- ---- fields

    value_at : {R : Known → Value → Type 0} {K : Known} (l l' : Locals) (n : ℕ) (p : Step) (grow : List Made → List Made) → l' ≡ l → Answers t i p grow K (OfValue t i B lasting R) → B K
        → Sound t i (Left t i B l R) (Thrown t i B) K (ask_value p) l' n
    value_at {R = R} l l' n p grow same h base = weaken t i (value_sound t i B lasting {R = R} l' n p grow h base) (λ K' a l'' le q. (q.0 ∙ same, q.1, q.2)) (λ K' j l'' le q. q)

    pub done_at : {R : Known → Value → Type 0} {K : Known} (l l' : Locals) (n : ℕ) (p : Step) (grow : List Made → List Made) → l' ≡ l → Answers t i p grow K (OfValue t i B lasting R) → B K
        → Sound t i (Left t i B l (λ K' u. (v : Value) × R K' v)) (Thrown t i B) K (ask_done p) l' n
    done_at {R = R} l l' n p grow same h base = weaken t i (done_sound t i B lasting {R = R} l' n p grow h base) (λ K' a l'' le q. (q.0 ∙ same, q.1, q.2)) (λ K' j l'' le q. q)

    -- ---- fields

    get_answers : (K : Known) (own : ClassName) (k : ℕ) (captured : Captured) (f : Field) → ((K' : Known) → Later K K' → Ok t K' → Has t K' (stored_or_default K'.world (fields_at K' k) f) (t.field_type f))
        → Answers t i (Get (Object own k captured) f) as_it_was K (OfValue t i B lasting (λ K' u. Has t K' u (t.field_type f)))
    get_answers K own k captured f has = record {
      fine = (λ e. cc, λ v e. cc);
      moved = λ K' le ok w a r. subst (λ (w : World). Moved t K' (same_shapes K' w)) (reply_is t i r).0 (stays_moved t K' ok);
      classes = λ K' le ok w a r. ap (λ (w : World). w.classes) (sym (reply_is t i r).0);
      says = λ K' le ok w a r. subst (λ (w : World). OfValue t i B lasting (λ K' u. Has t K' u (t.field_type f)) (same_shapes K' w) a) (reply_is t i r).0
          (subst (λ (a : Answer). OfValue t i B lasting (λ K' u. Has t K' u (t.field_type f)) K' a) (reply_is t i r).1 (has K' le.later ok));
    }

    -- a read of a field that was stored, if it is required
    pub get_object : (typed : TypedDefaults t) {K : Known} (own : ClassName) (k : ℕ) (captured : Captured) (f : Field) (l l' : Locals) (n : ℕ) → l' ≡ l → B K → (t.required f ≡ true → is_stored (fields_at K k) f ≡ true)
        → Sound t i (Left t i B l (λ K' u. Has t K' u (t.field_type f))) (Thrown t i B) K (get_field (Object own k captured) f) l' n
    get_object typed {K} own k captured f l l' n same base need = bind_sound t i (check_sound (Object own k captured) l l' n same base)
        (λ K' u l'' n' le q. value_at {R = λ K' u. Has t K' u (t.field_type f)} l l'' n' (Get (Object own k captured) f) as_it_was q.0
        (get_answers K' own k captured f (λ K'' le' ok. field_has t typed K'' k f ok (λ r. le'.fields k f (le.fields k f (need r))))) q.1)

    pub get_sound : (typed : TypedDefaults t) {K : Known} (v : Value) (class : ClassName) (f : Field) (l l' : Locals) (n : ℕ) → l' ≡ l → B K → IsInstance t K v class
        → ((own : ClassName) → t.below own class ≡ true → t.required f ≡ true → t.needs own f ≡ true)
        → Sound t i (Left t i B l (λ K' u. Has t K' u (t.field_type f))) (Thrown t i B) K (get_field v f) l' n
    get_sound typed {K} v class f l l' n same base h need =
        subst (λ (v : Value). Sound t i (Left t i B l (λ K' u. Has t K' u (t.field_type f))) (Thrown t i B) K (get_field v f) l' n) (sym h.is)
        (get_object typed h.own h.number h.captured f l l' n same base (λ r. h.whole f (need h.own h.below r)))

    -- ---- statics

    pub get_static_sound : (typed : TypedDefaults t) {K : Known} (f : Field) (l l' : Locals) (n : ℕ) → l' ≡ l → B K → (t.static_required f ≡ true → is_stored K.world.statics f ≡ true)
        → Sound t i (Left t i B l (λ K' u. Has t K' u (t.static_type f))) (Thrown t i B) K (get_static f) l' n
    get_static_sound typed {K} f l l' n same base need = value_at {R = λ K' u. Has t K' u (t.static_type f)} l l' n (GetStatic f) as_it_was same (record {
      fine = (λ e. cc, λ v e. cc);
      moved = λ K' le ok w a r. subst (λ (w : World). Moved t K' (same_shapes K' w)) (reply_is t i r).0 (stays_moved t K' ok);
      classes = λ K' le ok w a r. ap (λ (w : World). w.classes) (sym (reply_is t i r).0);
      says = λ K' le ok w a r. subst (λ (w : World). OfValue t i B lasting (λ K' u. Has t K' u (t.static_type f)) (same_shapes K' w) a) (reply_is t i r).0
          (subst (λ (a : Answer). OfValue t i B lasting (λ K' u. Has t K' u (t.static_type f)) K' a) (reply_is t i r).1 (static_has t typed K' f ok (λ r. le.later.statics f (need r))));
    }) base

    -- ---- elements

    index_by : {K : Known} (k size : ℕ) (l l' : Locals) (n : ℕ) (b : Bool) → nat_lt k size ≡ b → l' ≡ l → B K → Sound t i (Left t i B l (λ K' j. j < size)) (Thrown t i B) K (if b then pure k else raise (codes "ArrayIndexOutOfBoundsException")) l' n
    index_by k size l l' n true e same base = pure_sound t i (same, base, ltb-true k size e)
    index_by k size l l' n false e same base = raise_sound t i B lasting l' n _ base

    pub index_sound : {K : Known} (elements : Elements) (size number : ℕ) (j : ℤ) (l l' : Locals) (n : ℕ) → l' ≡ l → B K → Sound t i (Left t i B l (λ K' j. j < size)) (Thrown t i B) K (index_in (Array elements size number) j) l' n
    index_sound elements size number (pos k) l l' n same base = index_by k size l l' n (nat_lt k size) refl same base
    index_sound elements size number (negsuc k) l l' n same base = raise_sound t i B lasting l' n _ base

    elem_answers : (K : Known) (elements : Elements) (size number j : ℕ) (type : KType) → slice_get K.shapes number ≡ Some (AnArrayFor type size) → j < size
        → Answers t i (GetElem (Array elements size number) j) as_it_was K (OfValue t i B lasting (λ K' u. Has t K' u type))
    elem_answers K elements size number j type shape within = record {
      fine = (λ e. cc, λ v e. cc);
      moved = λ K' le ok w a r. subst (λ (w : World). Moved t K' (same_shapes K' w)) (reply_is t i r).0 (stays_moved t K' ok);
      classes = λ K' le ok w a r. ap (λ (w : World). w.classes) (sym (reply_is t i r).0);
      says = λ K' le ok w a r. subst (λ (w : World). OfValue t i B lasting (λ K' u. Has t K' u type) (same_shapes K' w) a) (reply_is t i r).0
          (subst (λ (a : Answer). OfValue t i B lasting (λ K' u. Has t K' u type) K' a) (reply_is t i r).1 ((ok.arrays number type size (le.later.shapes number _ shape)).each j within));
    }

    get_array : {K : Known} (elements : Elements) (size number : ℕ) (at : Value) (type : KType) (l l' : Locals) (n : ℕ) → l' ≡ l → B K → slice_get K.shapes number ≡ Some (AnArrayFor type size)
        → Sound t i (Left t i B l (λ K' u. Has t K' u type)) (Thrown t i B) K (get_element (Array elements size number) at) l' n
    get_array elements size number at type l l' n same base shape = bind_sound t i (bind_sound t i (check_sound (Array elements size number) l l' n same base)
        (λ K' u l'' n' le q. index_sound elements size number (integer_in at) l l'' n' q.0 q.1))
        (λ K' j l'' n' le q. value_at {R = λ K' u. Has t K' u type} l l'' n' (GetElem (Array elements size number) j) as_it_was q.0 (elem_answers K' elements size number j type (le.shapes number _ shape) q.2) q.1)

    pub get_element_sound : {K : Known} (v at : Value) (type : KType) (l l' : Locals) (n : ℕ) → l' ≡ l → B K → IsArray t K v type → Sound t i (Left t i B l (λ K' u. Has t K' u type)) (Thrown t i B) K (get_element v at) l' n
    get_element_sound {K} v at type l l' n same base h =
        subst (λ (v : Value). Sound t i (Left t i B l (λ K' u. Has t K' u type)) (Thrown t i B) K (get_element v at) l' n) (sym h.is) (get_array h.elements h.size h.number at type l l' n same base h.shape)

-- ---- stores

module _ (t : Table) (i : ℕ) (B : Known → Type 0) (lasting : Lasting t i B) where
  -- a store into an object, after which the field is stored
  put_object : {K : Known} (own : ClassName) (k : ℕ) (captured : Captured) (f : Field) (new : Value) (l l' : Locals) (n : ℕ) → l' ≡ l → B K → slice_get K.shapes k ≡ Some (AnInstance own) → Has t K new (t.field_type f)
      → Sound t i (Left t i B l (λ K' u. (v : Value) × (is_stored (fields_at K' k) f ≡ true))) (Thrown t i B) K (put_field (Object own k captured) f new) l' n
  put_object {K} own k captured f new l l' n same base shape has = bind_sound t i (check_sound t i B lasting (Object own k captured) l l' n same base)
      (λ K' u l'' n' le q. done_at t i B lasting {R = λ K' u. is_stored (fields_at K' k) f ≡ true} l l'' n' (Put (Object own k captured) f new) as_it_was q.0 (record {
        fine = (λ e. cc, λ v e. cc);
        moved = λ K'' le' ok w a r. subst (λ (w : World). Moved t K'' (same_shapes K'' w)) (reply_is t i r).0 (put_moved t K'' k f new ok (has_later t (later_on le le'.later) new (t.field_type f) has));
        classes = λ K'' le' ok w a r. ap (λ (w : World). w.classes) (sym (reply_is t i r).0);
        says = λ K'' le' ok w a r. subst (λ (w : World). OfValue t i B lasting (λ K' u. is_stored (fields_at K' k) f ≡ true) (same_shapes K'' w) a) (reply_is t i r).0
            (subst (λ (a : Answer). OfValue t i B lasting (λ K' u. is_stored (fields_at K' k) f ≡ true) (heap_put K'' k (put_at K'' k f new)) a) (reply_is t i r).1
            (put_stored t K'' k f new (subst (λ (n : ℕ). k < n) ok.size (get_within K''.shapes k _ (le'.later.shapes k _ (le.shapes k _ shape))))));
      }) q.1)

  put_value : {K : Known} (v : Value) (class : ClassName) (f : Field) (new : Value) (l l' : Locals) (n : ℕ) → l' ≡ l → B K → IsInstance t K v class → Has t K new (t.field_type f)
      → Sound t i (Left t i B l (λ K' u. Unit {0})) (Thrown t i B) K (put_field v f new) l' n
  put_value {K} v class f new l l' n same base h has =
      subst (λ (v : Value). Sound t i (Left t i B l (λ K' u. Unit {0})) (Thrown t i B) K (put_field v f new) l' n) (sym h.is)
      (weaken t i (put_object h.own h.number h.captured f new l l' n same base h.shape has) (λ K' u l'' le q. (q.0, q.1, tt)) (λ K' j l'' le q. q))

  put_static_at : {K : Known} (f : Field) (new : Value) (l l' : Locals) (n : ℕ) → l' ≡ l → B K → Has t K new (t.static_type f)
      → Sound t i (Left t i B l (λ K' u. (v : Value) × (is_stored K'.world.statics f ≡ true))) (Thrown t i B) K (put_static f new) l' n
  put_static_at f new l l' n same base has = done_at t i B lasting {R = λ K' u. is_stored K'.world.statics f ≡ true} l l' n (PutStatic f new) as_it_was same (record {
    fine = (λ e. cc, λ v e. cc);
    moved = λ K'' le' ok w a r. subst (λ (w : World). Moved t K'' (same_shapes K'' w)) (reply_is t i r).0 (static_moved t K'' f new ok (has_later t le'.later new (t.static_type f) has));
    classes = λ K'' le' ok w a r. ap (λ (w : World). w.classes) (sym (reply_is t i r).0);
    says = λ K'' le' ok w a r. subst (λ (w : World). OfValue t i B lasting (λ K' u. is_stored K'.world.statics f ≡ true) (same_shapes K'' w) a) (reply_is t i r).0
        (subst (λ (a : Answer). OfValue t i B lasting (λ K' u. is_stored K'.world.statics f ≡ true) (static_put t K'' f new) a) (reply_is t i r).1 (static_stored t K'' f new));
  }) base

  put_array : {K : Known} (elements : Elements) (size number : ℕ) (at new : Value) (type : KType) (l l' : Locals) (n : ℕ) → l' ≡ l → B K → slice_get K.shapes number ≡ Some (AnArrayFor type size) → Has t K new type
      → Sound t i (Left t i B l (λ K' u. Unit {0})) (Thrown t i B) K (put_element (Array elements size number) at new) l' n
  put_array elements size number at new type l l' n same base shape has = bind_sound t i (bind_sound t i (check_sound t i B lasting (Array elements size number) l l' n same base)
      (λ K' u l'' n' le q. index_sound t i B lasting elements size number (integer_in at) l l'' n' q.0 q.1))
      (λ K' j l'' n' le q. weaken t i (done_at t i B lasting {R = λ K' u. Unit {0}} l l'' n' (PutElem (Array elements size number) j new) as_it_was q.0 (record {
        fine = (λ e. cc, λ v e. cc);
        moved = λ K'' le' ok w a r. subst (λ (w : World). Moved t K'' (same_shapes K'' w)) (reply_is t i r).0
            (elem_moved t K'' number j new type size ok (le'.later.shapes number _ (le.shapes number _ shape)) (has_later t (later_on le le'.later) new type has));
        classes = λ K'' le' ok w a r. ap (λ (w : World). w.classes) (sym (reply_is t i r).0);
        says = λ K'' le' ok w a r. subst (λ (a : Answer). OfValue t i B lasting (λ K' u. Unit {0}) (same_shapes K'' w) a) (reply_is t i r).1 tt;
      }) q.1) (λ K'' u l''' le' q'. (q'.0, q'.1, tt)) (λ K'' j l''' le' q'. q'))

  put_element_sound : {K : Known} (v at new : Value) (type : KType) (l l' : Locals) (n : ℕ) → l' ≡ l → B K → IsArray t K v type → Has t K new type
      → Sound t i (Left t i B l (λ K' u. Unit {0})) (Thrown t i B) K (put_element v at new) l' n
  put_element_sound {K} v at new type l l' n same base h has =
      subst (λ (v : Value). Sound t i (Left t i B l (λ K' u. Unit {0})) (Thrown t i B) K (put_element v at new) l' n) (sym h.is) (put_array h.elements h.size h.number at new type l l' n same base h.shape has)

-- ---- loops

module _ (t : Table) (i : ℕ) where
  pub pay_sound : {Q : Known → Unit {0} → Locals → Type 0} {J : Known → Jump → Locals → Type 0} {K : Known} (l : Locals) (n : ℕ) → Q K tt l → Sound t i Q J K pay l n
  pay_sound l zero q = record { by = is_busy (λ xs. refl) }
  pay_sound l (suc n) q = record { by = gives tt l n (λ xs. refl) q }

  choose_sound : {A : Type 0} {Q : Known → A → Locals → Type 0} {J : Known → Jump → Locals → Type 0} {K : Known} {m m' : Meaning A} {l : Locals} {n : ℕ} (b : Bool) → Sound t i Q J K m l n → Sound t i Q J K m' l n → Sound t i Q J K (if b then m else m') l n
  choose_sound true h g = h
  choose_sound false h g = g

  module _ (Inv : Known → Locals → Type 0) (J : Known → Jump → Locals → Type 0) (no_exit : (K : Known) (e : Exit) (l : Locals) → J K (Exits e) l → ⊥) where
    catch_sound : {K : Known} {m : Meaning (Unit {0})} {l : Locals} {n : ℕ} (is : Exit → Bool) → Sound t i (λ K' u l'. Inv K' l') J K m l n → Sound t i (λ K' u l'. Inv K' l') J K (catch is m) l n
    catch_sound is h = record { by = after_safe t i (caught is) (record { asks = λ p. refl; is_busy = refl }) h.by (λ K' u l' n' le q. gives u l' n' (λ xs. refl) q) (λ K' j l' n' le q. on K' j l' n' q) } where
      on : (K' : Known) (j : Jump) (l' : Locals) (n' : ℕ) → J K' j l' → Safe t i (λ K' u l'. Inv K' l') J K' (λ xs. caught is (Jumps j (record { locals = l'; answers = xs; n = n' })))
      on K' (Returns v) l' n' q = jumps (Returns v) l' n' (λ xs. refl) q
      on K' (Throws v) l' n' q = jumps (Throws v) l' n' (λ xs. refl) q
      on K' (Exits e) l' n' q = absurd (no_exit K' e l' q)

    module _ {test : Meaning Value} {body : Meaning (Unit {0})} (tests : (K : Known) (l : Locals) (n : ℕ) → Inv K l → Sound t i (λ K' v l'. Inv K' l') J K test l n) (turns_on : (K : Known) (l : Locals) (n : ℕ) → Inv K l → Sound t i (λ K' u l'. Inv K' l') J K body l n) where
      turns_sound : (m : ℕ) (K : Known) (l : Locals) (n : ℕ) → Inv K l → Sound t i (λ K' u l'. Inv K' l') J K (turns m test body) l n
      turns_sound zero K l n inv = bind_sound t i (tests K l n inv) (λ K' v l' n' le q. choose_sound (is_true v) (busy_sound t i) (pure_sound t i q))
      turns_sound (suc m) K l n inv = bind_sound t i (tests K l n inv) (λ K' v l' n' le q. choose_sound (is_true v)
          (bind_sound t i (bind_sound t i (pay_sound {Q = λ K' u l'. Inv K' l'} l' n' q) (λ K'' u l'' n'' le' q'. turns_on K'' l'' n'' q')) (λ K'' u l'' n'' le' q'. turns_sound m K'' l'' n'' q'))
          (pure_sound t i q))

    pub loop_sound : {test : Meaning Value} {body : Meaning (Unit {0})} (labels : List Name) → ((K : Known) (l : Locals) (n : ℕ) → Inv K l → Sound t i (λ K' v l'. Inv K' l') J K test l n)
        → ((K : Known) (l : Locals) (n : ℕ) → Inv K l → Sound t i (λ K' u l'. Inv K' l') J K body l n) → (K : Known) (l : Locals) (n : ℕ) → Inv K l → Sound t i (λ K' u l'. Inv K' l') J K (loop labels test body) l n
    loop_sound {test} {body} labels tests turns_on K l n inv =
        record { by = (catch_sound {m = turns n test (catch (is_continue labels) body)} (is_break labels) (turns_sound tests (λ K l n inv. catch_sound (is_continue labels) (turns_on K l n inv)) n K l n inv)).by }
