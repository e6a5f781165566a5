-- What tokens at the place of what was made spell, tokens at any places spell with their places.
use Rattle.std.proofs.Common.{◌≡◌, ℕ, zero, suc, Bool, true, false, List, [], ◌∷◌, ◌++◌, map, Option, Some, None, refl, ap, sym, subst, ◌∙◌}
use Rattle.std.specs.Prelude.{if◌then◌else◌}
use Rattle.std.specs.Option.{option_map}
use Rattle.grammar.specs.declared.symbols.Symbol.TheVariants as y
use Rattle.grammar.specs.Grammar.{Derives}
use Rattle.kotlin_tree.specs.declared.tokens.KToken.{KToken}
use Rattle.kotlin_tree.specs.declared.files.KClass.{KClass}
use Rattle.kotlin_tree.specs.UpToPlaces.{unplaced_package, unplaced_import}
use Rattle.kotlin_grammar.specs.declared.letters.Form.{Form}
use Rattle.kotlin_grammar.specs.declared.letters.Form.TheVariants as f
use Rattle.kotlin_grammar.specs.declared.built.Built.{Built}
use Rattle.kotlin_grammar.specs.Table.{Symbols, written}
use Rattle.kotlin_grammar.specs.Ahead.{Letters, letters}
use Rattle.kotlin_grammar.specs.Taking.{takes}
use Rattle.kotlin_grammar.specs.Meaning.{taken}
use Rattle.kotlin_grammar.specs.Depth.{acts}
use Rattle.kotlin_grammar.specs.Parts.{empty, last_class, last_package, last_imports}
use Rattle.kotlin_grammar.specs.Reading.{profile, start, SpellsClass, SpellsHead, Head, head_of, class_by}
use Rattle.kotlin_grammar.specs.Files.{Tokens, apart, begun, pieces, open_behind, ends_piece, Content, SpellsClasses, SpellsPieces, SpellsFile}
use Rattle.kotlin_placeless.specs.Placeless.{placeless_class, placeless_head, placeless_content, placeless_token, placeless_tokens, placeless_letter, placeless_built}
use Rattle.kotlin_placeless.proofs.Parts.{moved, carried, pop_class, pop_package, pop_imports}
use Rattle.kotlin_placeless.proofs.Actions.{acts_made}
use Rattle.kotlin_placeless.proofs.Letters.{placeless_letters, placeless_taken, letters_same, takes_same}

module _ {A B : Type 0} where
  -- what is told of a part is told of the whole
  some_of : (f : A → B) (o : Option A) (y : B) → option_map f o ≡ Some y → (x : A) × (o ≡ Some x) × (f x ≡ y)
  some_of f None y is = absurd (cc is)
  some_of f (Some x) y is = (x, refl, cc)

  none_left : (f : A → B) (xs : List A) → map f xs ≡ [] → xs ≡ []
  none_left f [] is = refl
  none_left f (x ∷ xs) is = absurd (cc is)

-- what is built of the tokens where they stand
abbrev Lifts : ℕ → Symbols → Built → Letters → Built → Type 0
Lifts d s b ls new = (u : Built) × Derives profile d s b ls u × (placeless_built u ≡ new)

lifted : (d : ℕ) (s : Symbols) (b : Built) (ls : Letters) (new : Built) → Derives profile d s (placeless_built b) (placeless_letters ls) new → Lifts d s b ls new
unfolding Derives
lifted zero s b ls new has = absurd has
lifted (suc d) [] b ls new has = (b, (refl, none_left placeless_letter ls has.1), has.0)
lifted (suc d) (y.Term c ∷ s) b ls new has =
    let k = some_of placeless_taken (takes taken c b ls) has.0 (sym (takes_same c b ls) ∙ has.1) in
    let r = lifted d s k.0.0 k.0.1 new (subst (λ (z : Built × Letters). Derives profile d s z.0 z.1 new) (sym k.2) has.2) in
    (r.0, (k.0, k.1, r.1), r.2)
lifted (suc d) (y.Act a ∷ s) b ls new has =
    let k = some_of placeless_built (acts a b) has.0 (sym (acts_made a b) ∙ has.1) in
    let r = lifted d s k.0 ls new (subst (λ z. Derives profile d s z (placeless_letters ls) new) (sym k.2) has.2) in
    (r.0, (k.0, k.1, r.1), r.2)
lifted (suc d) (y.Form n ∷ s) b ls new has =
    let r = lifted d (written has.0 ++ s) b ls new has.2 in
    (r.0, (has.0, has.1, r.1), r.2)

empty_same : placeless_built empty ≡ empty
unfolding placeless_built empty
empty_same = refl

makes_lifted : (n : Form) (d : ℕ) (ts : Tokens) (new : Built) → Derives profile d (start n) empty (letters (placeless_tokens ts)) new → Lifts d (start n) empty (letters ts) new
makes_lifted n d ts new has =
    lifted d (start n) empty (letters ts) new
    (subst (λ z. Derives profile d (start n) z (placeless_letters (letters ts)) new) (sym empty_same) (subst (λ z. Derives profile d (start n) empty z new) (letters_same ts) has))

-- ---- a class, and the first piece

class_lifted : (c : KClass) (ts : Tokens) → SpellsClass c (placeless_tokens ts) → (x : KClass) × SpellsClass x ts × (placeless_class x ≡ c)
class_lifted c ts has =
    let r = makes_lifted f.ClassForm has.makes.steps ts has.built has.makes.derives in
    let k = some_of (moved placeless_class) (last_class r.0) (c, has.holds.0) (sym (pop_class r.0) ∙ ap last_class r.2 ∙ has.holds.1) in
    (k.0.0, record { built = r.0; makes = record { steps = has.makes.steps; derives = r.1 }; holds = (k.0.1, k.1) }, ap (λ (z : KClass × Built). z.0) k.2)

class_told : (o : Option (KClass × Built)) → class_by (option_map (moved placeless_class) o) ≡ option_map placeless_class (class_by o)
class_told None = refl
class_told (Some x) = refl

head_told : (b : Built) → head_of (placeless_built b) ≡ option_map placeless_head (head_of b)
head_told b =
    carried (moved (map unplaced_import)) placeless_head (last_imports b) (last_imports (placeless_built b)) _ _ (pop_imports b) (λ imports.
    carried (moved (option_map unplaced_package)) placeless_head (last_package imports.1) (last_package (placeless_built imports.1)) _ _ (pop_package imports.1) (λ line.
    ap (λ z. Some (record { package_line = option_map unplaced_package line.0; imports = map unplaced_import imports.0; first_class = z })) (ap class_by (pop_class line.1) ∙ class_told (last_class line.1))))

head_lifted : (h : Head) (ts : Tokens) → SpellsHead h (placeless_tokens ts) → (x : Head) × SpellsHead x ts × (placeless_head x ≡ h)
head_lifted h ts has =
    let r = makes_lifted f.FileHead has.makes.steps ts has.built has.makes.derives in
    let k = some_of placeless_head (head_of r.0) h (sym (head_told r.0) ∙ ap head_of r.2 ∙ has.holds) in
    (k.0, record { built = r.0; makes = record { steps = has.makes.steps; derives = r.1 }; holds = k.1 }, k.2)

-- ---- pieces

one_more : (p : Tokens) (t : KToken) → (placeless_tokens p ++ placeless_token t ∷ []) ≡ placeless_tokens (p ++ t ∷ [])
one_more [] t = refl
one_more (x ∷ p) t = ap (λ z. placeless_token x ∷ z) (one_more p t)

cut_by : (b : Bool) (t : Tokens) (x y u v : List Tokens) (w : Tokens) → w ≡ placeless_tokens t → x ≡ map placeless_tokens u → y ≡ map placeless_tokens v → (if b then w ∷ x else y) ≡ map placeless_tokens (if b then t ∷ u else v)
cut_by true t x y u v w h i j = ap (λ z. z ∷ x) h ∙ ap (λ z. placeless_tokens t ∷ z) i
cut_by false t x y u v w h i j = j

pieces_same : (n : ℕ) (p ts : Tokens) → pieces n (placeless_tokens p) (placeless_tokens ts) ≡ map placeless_tokens (pieces n p ts)
unfolding pieces
pieces_same n p [] = refl
pieces_same n p (t ∷ ts) =
    cut_by (ends_piece n t.kind) (p ++ t ∷ []) _ _ (pieces 0 [] ts) (pieces (open_behind n t.kind) (p ++ t ∷ []) ts) (placeless_tokens p ++ placeless_token t ∷ []) (one_more p t) (pieces_same 0 [] ts)
    (ap (λ z. pieces (open_behind n t.kind) z (placeless_tokens ts)) (one_more p t) ∙ pieces_same (open_behind n t.kind) (p ++ t ∷ []) ts)

begun_same : (ts : Tokens) → begun (placeless_tokens ts) ≡ placeless_tokens (begun ts)
begun_same [] = refl
begun_same (t ∷ ts) = refl

classes_lifted : (cs : List KClass) (ps : List Tokens) → SpellsClasses cs (map placeless_tokens ps) → (xs : List KClass) × SpellsClasses xs ps × (map placeless_class xs ≡ cs)
unfolding SpellsClasses
classes_lifted cs [] has = ([], refl, sym has)
classes_lifted cs ([] ∷ ps) has = classes_lifted cs ps has
classes_lifted [] ((t ∷ ts) ∷ ps) has = absurd has
classes_lifted (c ∷ cs) ((t ∷ ts) ∷ ps) has =
    let x = class_lifted c (apart (t ∷ ts)) has.0 in
    let xs = classes_lifted cs ps has.1 in
    (x.0 ∷ xs.0, (x.1, xs.1), ap (λ z. z ∷ map placeless_class xs.0) x.2 ∙ ap (λ z. c ∷ z) xs.2)

pieces_lifted : (x : Content) (ps : List Tokens) → SpellsPieces x (map placeless_tokens ps) → (z : Content) × SpellsPieces z ps × (placeless_content z ≡ x)
unfolding SpellsPieces
pieces_lifted x [] has = absurd has
pieces_lifted x (p ∷ ps) has =
    let h = head_lifted x.head (begun p) (subst (SpellsHead x.head) (begun_same p) has.0) in
    let cs = classes_lifted x.classes ps has.1 in
    (record { head = h.0; classes = cs.0 }, (h.1, cs.1), ap (λ z. record { head = z; classes = map placeless_class cs.0 }) h.2 ∙ ap (λ z. record { head = x.head; classes = z }) cs.2)

-- The tokens of a file may stand anywhere.
pub file_lifted : (x : Content) (ts : Tokens) → SpellsFile x (placeless_tokens ts) → (z : Content) × SpellsFile z ts × (placeless_content z ≡ x)
file_lifted x ts has = pieces_lifted x (pieces 0 [] ts) (subst (SpellsPieces x) (pieces_same 0 [] ts) has)
