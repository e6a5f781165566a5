-- What is read is what is spelled, and tokens spell one tree at most.
use Rattle.std.proofs.Common.{◌≡◌, ◌≤◌, ◌+◌, ◌*◌, ℕ, suc, Bool, true, false, List, [], ◌∷◌, length, Option, Some, None, refl, ap, sym, ◌∙◌, arith}
use Rattle.std.specs.Prelude.{if◌then◌else◌}
use Rattle.grammar.specs.Certificate.{weight_of, terms, paid}
use Rattle.grammar.specs.Machine.{◌>>=◌}
use Rattle.grammar.proofs.LawsToCite.{Good, read, sound, bind_some, some_same}
use Rattle.kotlin_tree.specs.declared.tokens.KToken.{KToken}
use Rattle.kotlin_tree.specs.declared.files.KClass.{KClass}
use Rattle.kotlin_grammar.specs.declared.letters.Form.{Form}
use Rattle.kotlin_grammar.specs.declared.letters.Form.TheVariants as f
use Rattle.kotlin_grammar.specs.declared.built.Built.{Built}
use Rattle.kotlin_grammar.specs.Ahead.{Letters, letters, is_plain}
use Rattle.kotlin_grammar.specs.Taking.{size}
use Rattle.kotlin_grammar.specs.Kotlin.{by_kind}
use Rattle.kotlin_grammar.specs.Parts.{empty, last_class}
use Rattle.kotlin_grammar.specs.Meaning.{taken}
use Rattle.kotlin_grammar.specs.Depth.{acts}
use Rattle.kotlin_grammar.specs.Reading.{profile, start, Makes, Head, SpellsClass, SpellsHead, class_by, head_of, steps_for, made_of, class_of, first_of}
use Rattle.kotlin_grammar.proofs.Decided.{certificate, owned}
use Rattle.kotlin_grammar.proofs.Decides.{decided, good_head, good_class}

gap_size : (b : Bool) → (if b then 1 else 2) ≤ 2
gap_size true = omega arith
gap_size false = omega arith

size_bound : (ls : Letters) → size ls ≤ 2 * length ls
size_bound [] = omega arith
size_bound (l ∷ ls) = omega (arith, gap_size (is_plain l.token.gap), size_bound ls)

bound : (ls : Letters) (w : ℕ) → w ≤ 90 → w + 0 + 64 * size ls + 1 ≤ 128 * length ls + 100 + 64 * 0
bound ls w l = omega (arith, l, size_bound ls)

abbrev Fits : Form → Type 0
Fits n = (certificate.weight n ≤ 90) × Good profile by_kind certificate (decided taken acts) (start n)

fits_class : Fits f.ClassForm
fits_class = (omega arith, good_class taken acts)

fits_head : Fits f.FileHead
fits_head = (omega arith, good_head taken acts)

pub made : (n : Form) → Fits n → (ls : Letters) (b : Built) → Makes n ls b → made_of n ls ≡ Some b
unfolding made_of
made n h ls b m = read profile by_kind certificate (decided taken acts) (steps_for ls) m.steps (start n) empty ls b h.1 (bound ls (certificate.weight n) h.0) m.derives

pub makes : (n : Form) (ls : Letters) (b : Built) → made_of n ls ≡ Some b → Makes n ls b
unfolding made_of
makes n ls b h = record { steps = steps_for ls; derives = sound profile by_kind owned (steps_for ls) (start n) empty ls b h }

pub letters_length : (ts : List KToken) → length (letters ts) ≡ length ts
unfolding letters
letters_length [] = refl
letters_length (t ∷ ts) = ap suc (letters_length ts)

class_held : (o : Option (KClass × Built)) (c : KClass) → class_by o ≡ Some c → (rest : Built) × (o ≡ Some (c, rest))
class_held None c h = absurd (cc h)
class_held (Some x) c h = (x.1, ap (λ z. Option.Some (z, x.1)) (some_same h))

-- a piece is read as a class exactly where it spells it
pub class_read : (c : KClass) (ts : List KToken) → SpellsClass c ts → class_of ts ≡ Some c
unfolding class_of
class_read c ts s = ap (λ o. o >>= λ b. class_by (last_class b)) (made f.ClassForm fits_class (letters ts) s.built s.makes) ∙ ap class_by s.holds.1

pub class_spelled : (c : KClass) (ts : List KToken) → class_of ts ≡ Some c → SpellsClass c ts
unfolding class_of
class_spelled c ts h =
    let b = bind_some (made_of f.ClassForm (letters ts)) _ _ h in
    record { built = b.0; makes = makes f.ClassForm (letters ts) b.0 b.1; holds = class_held (last_class b.0) c b.2 }

pub one_class : (c e : KClass) (ts : List KToken) → SpellsClass c ts → SpellsClass e ts → c ≡ e
one_class c e ts s z = some_same (sym (class_read c ts s) ∙ class_read e ts z)

-- and the same of the first piece
pub head_read : (h : Head) (ts : List KToken) → SpellsHead h ts → first_of ts ≡ Some h
unfolding first_of
head_read h ts s = ap (λ o. o >>= head_of) (made f.FileHead fits_head (letters ts) s.built s.makes) ∙ s.holds

pub head_spelled : (h : Head) (ts : List KToken) → first_of ts ≡ Some h → SpellsHead h ts
unfolding first_of
head_spelled h ts e =
    let b = bind_some (made_of f.FileHead (letters ts)) _ _ e in
    record { built = b.0; makes = makes f.FileHead (letters ts) b.0 b.1; holds = b.2 }

pub one_head : (h i : Head) (ts : List KToken) → SpellsHead h ts → SpellsHead i ts → h ≡ i
one_head h i ts s z = some_same (sym (head_read h ts s) ∙ head_read i ts z)
