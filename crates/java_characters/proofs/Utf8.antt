-- What a character is encoded as is read as that character, and nothing else is.
use Rattle.std.proofs.Common.{◌≡◌, ℕ, ◌+◌, ◌-◌, ◌*◌, ◌/◌, ◌%◌, ◌<◌, ◌≤◌, Bool, true, false, ◌&&◌, ◌⊎◌, List, [], ◌∷◌, ◌++◌, length, take, ltb, leb, eqb, cond, refl, sym, ◌∙◌, ap, subst, arith, inl, inr}
use Rattle.std.proofs.lemmas.Bool.{lt-ltb, le-ltb, le-leb, leb-true, cases_lt, false≢true}
use Rattle.std.proofs.lemmas.Bool.Decides.{leb_tells, eqb_tells}
use Rattle.std.specs.Prelude.{slice_index}
use Rattle.std.specs.Str.Lossy.{second_byte_min, second_byte_max}
use Rattle.std.specs.Char.{IsScalar}
use lib.Utf8.{encode, scalar_cases, low_scalar}
use Rattle.std.specs.Int.{is_in_range}
use Rattle.java_characters.specs.declared.letters.Ending.TheVariants.{Byte}
use Rattle.java_characters.specs.declared.letters.RawFront.{RawFront}
use Rattle.java_characters.specs.declared.letters.RawFront.TheVariants.{Stop, Plain}
use Rattle.java_characters.specs.Letters.{is_tail, is_second, is_two, is_three, is_four, character_of, character_front}

-- what is read where no shorter character stands
abbrev last : ℕ → ℕ → ℕ → ℕ → RawFront
last a b c d = cond (is_four a b c d) (Plain ((((a - 240) * 64 + (b - 128)) * 64 + (c - 128)) * 64 + (d - 128)) 4) (Stop Byte)

abbrev after : ℕ → ℕ → ℕ → ℕ → RawFront
after a b c d = cond (is_three a b c) (Plain (((a - 224) * 64 + (b - 128)) * 64 + (c - 128)) 3) (last a b c d)

encode_one : (c : ℕ) → c < 128 → encode c ≡ c ∷ []
unfolding encode
encode_one c h = let e = lt-ltb c 128 h in rw e refl

encode_two : (c : ℕ) → 128 ≤ c → c < 2048 → encode c ≡ (192 + c / 64) ∷ (128 + c % 64) ∷ []
unfolding encode
encode_two c h i = let e = le-ltb c 128 h in let f = lt-ltb c 2048 i in rw (e, f) refl

encode_three : (c : ℕ) → 2048 ≤ c → c < 65536 → encode c ≡ (224 + c / 4096) ∷ (128 + c / 64 % 64) ∷ (128 + c % 64) ∷ []
unfolding encode
encode_three c h i =
    let e = le-ltb c 128 (omega arith) in
    let f = le-ltb c 2048 h in
    let g = lt-ltb c 65536 i in rw (e, f, g) refl

encode_four : (c : ℕ) → 65536 ≤ c → encode c ≡ (240 + c / 262144) ∷ (128 + c / 4096 % 64) ∷ (128 + c / 64 % 64) ∷ (128 + c % 64) ∷ []
unfolding encode
encode_four c h =
    let e = le-ltb c 128 (omega arith) in
    let f = le-ltb c 2048 (omega arith) in
    let g = le-ltb c 65536 h in rw (e, f, g) refl

both : (x y : Bool) → x ≡ true → y ≡ true → (x && y) ≡ true
both true true h i = refl
both true false h i = i
both false y h i = h

front_one : (a : ℕ) (rest : List ℕ) → a < 128 → character_front (a ∷ rest) ≡ Plain a 1
unfolding character_front
front_one a rest h = let e = lt-ltb a 128 h in rw e refl

front_two : (a b : ℕ) (rest : List ℕ) → 194 ≤ a → a ≤ 223 → 128 ≤ b → b ≤ 191 → character_front (a ∷ b ∷ rest) ≡ Plain ((a - 192) * 64 + (b - 128)) 2
unfolding character_front
front_two a b rest h i j k =
    let e = le-ltb a 128 (omega arith) in
    let f : is_two a b ≡ true = both (leb 194 a && leb a 223) (leb 128 b && leb b 191) (both (leb 194 a) (leb a 223) (le-leb 194 a h) (le-leb a 223 i)) (both (leb 128 b) (leb b 191) (le-leb 128 b j) (le-leb b 191 k)) in
    rw (e, f) refl

not_le : (a b : ℕ) → b < a → leb a b ≡ false
not_le a b h = elim (leb_tells a b) [ inl t ↦ absurd (omega (arith, t.1)) | inr t ↦ t.0 ]

above : (x y z : Bool) → y ≡ false → ((x && y) && z) ≡ false
above true true z h = absurd (false≢true (sym h))
above true false z h = refl
above false y z h = refl

not_two : (a b : ℕ) → 223 < a → is_two a b ≡ false
not_two a b h = above (leb 194 a) (leb a 223) (leb 128 b && leb b 191) (not_le a 223 h)

not_three : (a b c : ℕ) → 239 < a → is_three a b c ≡ false
not_three a b c h = above (leb 224 a) (leb a 239) (is_second a b && is_tail c) (not_le a 239 h)

least : (a b : ℕ) → (a ≡ 224 → 160 ≤ b) → (a ≡ 240 → 144 ≤ b) → 128 ≤ b → second_byte_min a ≤ b
least a b h i j =
    elim (eqb_tells a 224) [
      | inl t ↦ subst (λ x. cond x 160 (cond (eqb a 240) 144 128) ≤ b) (sym t.0) (h t.1)
      | inr t ↦ subst (λ x. cond x 160 (cond (eqb a 240) 144 128) ≤ b) (sym t.0) (elim (eqb_tells a 240) [
        | inl u ↦ subst (λ x. cond x 144 128 ≤ b) (sym u.0) (i u.1)
        | inr u ↦ subst (λ x. cond x 144 128 ≤ b) (sym u.0) j
      ])
    ]

most : (a b : ℕ) → (a ≡ 237 → b ≤ 159) → (a ≡ 244 → b ≤ 143) → b ≤ 191 → b ≤ second_byte_max a
most a b h i j =
    elim (eqb_tells a 237) [
      | inl t ↦ subst (λ x. b ≤ cond x 159 (cond (eqb a 244) 143 191)) (sym t.0) (h t.1)
      | inr t ↦ subst (λ x. b ≤ cond x 159 (cond (eqb a 244) 143 191)) (sym t.0) (elim (eqb_tells a 244) [
        | inl u ↦ subst (λ x. b ≤ cond x 143 191) (sym u.0) (i u.1)
        | inr u ↦ subst (λ x. b ≤ cond x 143 191) (sym u.0) j
      ])
    ]

second : (a b : ℕ) → second_byte_min a ≤ b → b ≤ second_byte_max a → is_second a b ≡ true
second a b h i = both (leb (second_byte_min a) b) (leb b (second_byte_max a)) (le-leb (second_byte_min a) b h) (le-leb b (second_byte_max a) i)

tail_byte : (b : ℕ) → 128 ≤ b → b ≤ 191 → is_tail b ≡ true
tail_byte b h i = both (leb 128 b) (leb b 191) (le-leb 128 b h) (le-leb b 191 i)

front_three : (a b c : ℕ) (rest : List ℕ) → 224 ≤ a → a ≤ 239 → is_second a b ≡ true → is_tail c ≡ true →
    character_front (a ∷ b ∷ c ∷ rest) ≡ Plain (((a - 224) * 64 + (b - 128)) * 64 + (c - 128)) 3
unfolding character_front
front_three a b c rest h i j k =
    let e = le-ltb a 128 (omega arith) in
    let f = not_two a b (omega arith) in
    let g : is_three a b c ≡ true = both (leb 224 a && leb a 239) (is_second a b && is_tail c) (both (leb 224 a) (leb a 239) (le-leb 224 a h) (le-leb a 239 i)) (both (is_second a b) (is_tail c) j k) in
    ap (λ t. cond t (Plain a 1) (cond (is_two a b) (Plain ((a - 192) * 64 + (b - 128)) 2) (after a b c (slice_index rest 0)))) e
    ∙ (ap (λ t. cond t (Plain ((a - 192) * 64 + (b - 128)) 2) (after a b c (slice_index rest 0))) f
    ∙ ap (λ t. cond t (Plain (((a - 224) * 64 + (b - 128)) * 64 + (c - 128)) 3) (last a b c (slice_index rest 0))) g)

front_four : (a b c d : ℕ) (rest : List ℕ) → 240 ≤ a → a ≤ 244 → is_second a b ≡ true → is_tail c ≡ true → is_tail d ≡ true →
    character_front (a ∷ b ∷ c ∷ d ∷ rest) ≡ Plain ((((a - 240) * 64 + (b - 128)) * 64 + (c - 128)) * 64 + (d - 128)) 4
unfolding character_front
front_four a b c d rest h i j k l =
    let e = le-ltb a 128 (omega arith) in
    let f = not_two a b (omega arith) in
    let g = not_three a b c (omega arith) in
    let m : is_four a b c d ≡ true = both (leb 240 a && leb a 244) (is_second a b && (is_tail c && is_tail d)) (both (leb 240 a) (leb a 244) (le-leb 240 a h) (le-leb a 244 i)) (both (is_second a b) (is_tail c && is_tail d) j (both (is_tail c) (is_tail d) k l)) in
    ap (λ t. cond t (Plain a 1) (cond (is_two a b) (Plain ((a - 192) * 64 + (b - 128)) 2) (after a b c d))) e
    ∙ (ap (λ t. cond t (Plain ((a - 192) * 64 + (b - 128)) 2) (after a b c d)) f
    ∙ (ap (λ t. cond t (Plain (((a - 224) * 64 + (b - 128)) * 64 + (c - 128)) 3) (last a b c d)) g
    ∙ ap (λ t. cond t (Plain ((((a - 240) * 64 + (b - 128)) * 64 + (c - 128)) * 64 + (d - 128)) 4) (Stop Byte)) m))

joined_two : (c : ℕ) → (192 + c / 64 - 192) * 64 + (128 + c % 64 - 128) ≡ c
joined_two c = omega arith

joined_three : (c : ℕ) → ((224 + c / 4096 - 224) * 64 + (128 + c / 64 % 64 - 128)) * 64 + (128 + c % 64 - 128) ≡ c
joined_three c = omega arith

joined_four : (c : ℕ) → (((240 + c / 262144 - 240) * 64 + (128 + c / 4096 % 64 - 128)) * 64 + (128 + c / 64 % 64 - 128)) * 64 + (128 + c % 64 - 128) ≡ c
joined_four c = omega arith

-- A character's bytes are read as that character.
pub decodes : (c : ℕ) (rest : List ℕ) → IsScalar c → character_front (encode c ++ rest) ≡ Plain c (length (encode c))
decodes c rest s = by_range c rest s (cases_lt c 128) (cases_lt c 2048) (cases_lt c 65536)
  where
    by_range : (c : ℕ) (rest : List ℕ) → IsScalar c → (c < 128) ⊎ (128 ≤ c) → (c < 2048) ⊎ (2048 ≤ c) → (c < 65536) ⊎ (65536 ≤ c) →
        character_front (encode c ++ rest) ≡ Plain c (length (encode c))
    by_range c rest s (inl h) v w = rw (encode_one c h) (front_one c rest h)
    by_range c rest s (inr h) (inl i) w =
        rw (encode_two c h i) (front_two (192 + c / 64) (128 + c % 64) rest (omega arith) (omega arith) (omega arith) (omega arith) ∙ ap (λ x. Plain x 2) (joined_two c))
    by_range c rest s (inr h) (inr i) (inl j) =
        let a = 224 + c / 4096 in
        let b = 128 + c / 64 % 64 in
        let d = 128 + c % 64 in
        let r = scalar_cases c s in
        let low : second_byte_min a ≤ b = least a b (λ e. omega arith) (λ e. omega arith) (omega arith) in
        let high : b ≤ second_byte_max a = most a b (λ e. omega (arith, r)) (λ e. omega arith) (omega arith) in
        rw (encode_three c i j) (front_three a b d rest (omega arith) (omega arith) (second a b low high) (tail_byte d (omega arith) (omega arith)) ∙ ap (λ x. Plain x 3) (joined_three c))
    by_range c rest s (inr h) (inr i) (inr j) =
        let a = 240 + c / 262144 in
        let b = 128 + c / 4096 % 64 in
        let d = 128 + c / 64 % 64 in
        let f = 128 + c % 64 in
        let r = scalar_cases c s in
        let top : c < 1114112 = omega (arith, r) in
        let low : second_byte_min a ≤ b = least a b (λ e. omega arith) (λ e. omega arith) (omega arith) in
        let high : b ≤ second_byte_max a = most a b (λ e. omega arith) (λ e. omega arith) (omega arith) in
        rw (encode_four c j)
        (front_four a b d f rest (omega arith) (omega arith) (second a b low high) (tail_byte d (omega arith) (omega arith)) (tail_byte f (omega arith) (omega arith)) ∙ ap (λ x. Plain x 4) (joined_four c))

split : (b : Bool) (x y z : RawFront) → cond b x y ≡ z → ((b ≡ true) × (x ≡ z)) ⊎ ((b ≡ false) × (y ≡ z))
split true x y z h = inl (refl, h)
split false x y z h = inr (refl, h)

both_are : (x y : Bool) → (x && y) ≡ true → (x ≡ true) × (y ≡ true)
both_are true y h = (refl, h)
both_are false y h = absurd (false≢true h)

-- what the tests of a byte say
range_is : (low high b : ℕ) → (leb low b && leb b high) ≡ true → (low ≤ b) × (b ≤ high)
range_is low high b h = let t = both_are (leb low b) (leb b high) h in (leb-true low b t.0, leb-true b high t.1)

least_is : (a b : ℕ) → second_byte_min a ≤ b → (128 ≤ b) × (a ≡ 224 → 160 ≤ b) × (a ≡ 240 → 144 ≤ b)
least_is a b h =
    elim (eqb_tells a 224) [
      | inl t ↦ let k : 160 ≤ b = subst (λ x. cond x 160 (cond (eqb a 240) 144 128) ≤ b) t.0 h in (omega (arith, k), λ e. k, λ e. omega (arith, k))
      | inr t ↦ let k : cond (eqb a 240) 144 128 ≤ b = subst (λ x. cond x 160 (cond (eqb a 240) 144 128) ≤ b) t.0 h in
          elim (eqb_tells a 240) [
            | inl u ↦ let m : 144 ≤ b = subst (λ x. cond x 144 128 ≤ b) u.0 k in (omega (arith, m), λ e. absurd (t.1 e), λ e. m)
            | inr u ↦ let m : 128 ≤ b = subst (λ x. cond x 144 128 ≤ b) u.0 k in (m, λ e. absurd (t.1 e), λ e. absurd (u.1 e))
          ]
    ]

most_is : (a b : ℕ) → b ≤ second_byte_max a → (b ≤ 191) × (a ≡ 237 → b ≤ 159) × (a ≡ 244 → b ≤ 143)
most_is a b h =
    elim (eqb_tells a 237) [
      | inl t ↦ let k : b ≤ 159 = subst (λ x. b ≤ cond x 159 (cond (eqb a 244) 143 191)) t.0 h in (omega (arith, k), λ e. k, λ e. absurd (omega (arith, t.1, e)))
      | inr t ↦ let k : b ≤ cond (eqb a 244) 143 191 = subst (λ x. b ≤ cond x 159 (cond (eqb a 244) 143 191)) t.0 h in
          elim (eqb_tells a 244) [
            | inl u ↦ let m : b ≤ 143 = subst (λ x. b ≤ cond x 143 191) u.0 k in (omega (arith, m), λ e. absurd (t.1 e), λ e. m)
            | inr u ↦ let m : b ≤ 191 = subst (λ x. b ≤ cond x 143 191) u.0 k in (m, λ e. absurd (t.1 e), λ e. absurd (u.1 e))
          ]
    ]

high_scalar : (c : ℕ) → 57344 ≤ c → c < 1114112 → IsScalar c
high_scalar c h i =
    let e = le-ltb c 55296 (omega (arith, h)) in
    let f : (leb 57344 c && ltb c 1114112) ≡ true = both (leb 57344 c) (ltb c 1114112) (le-leb 57344 c h) (lt-ltb c 1114112 i) in
    ap (λ x. cond x true (leb 57344 c && ltb c 1114112)) e ∙ f

-- the character c is encoded as the first n of these bytes
record Encodes (bs : List ℕ) (c : ℕ) : Type 0 where
  scalar : IsScalar c
  bytes : bs ≡ encode c

back_two : (a b c : ℕ) → 194 ≤ a → a ≤ 223 → 128 ≤ b → b ≤ 191 → (a - 192) * 64 + (b - 128) ≡ c → Encodes (a ∷ b ∷ []) c
back_two a b c h i j k e =
    let x : a ≡ 192 + c / 64 = omega arith in
    let y : b ≡ 128 + c % 64 = omega arith in
    record {
      scalar = low_scalar c (omega arith);
      bytes = ap (λ z. z ∷ b ∷ []) x ∙ (ap (λ z. (192 + c / 64) ∷ z ∷ []) y ∙ sym (encode_two c (omega arith) (omega arith)));
    }

back_three : (a b d c : ℕ) → 224 ≤ a → a ≤ 239 → second_byte_min a ≤ b → b ≤ second_byte_max a → 128 ≤ d → d ≤ 191 → ((a - 224) * 64 + (b - 128)) * 64 + (d - 128) ≡ c →
    Encodes (a ∷ b ∷ d ∷ []) c
back_three a b d c h i low high j k e =
    let l = least_is a b low in
    let m = most_is a b high in
    let b1 : 128 ≤ b = l.0 in
    let b2 : b ≤ 191 = m.0 in
    let b3 : (160 ≤ b) ⊎ (225 ≤ a) = elim (eqb_tells a 224) [ inl t ↦ inl (l.1 t.1) | inr t ↦ inr (omega (arith, t.1)) ] in
    let b4 : (b ≤ 159) ⊎ ((a ≤ 236) ⊎ (238 ≤ a)) =
    elim (eqb_tells a 237) [ inl t ↦ inl (m.1 t.1) | inr t ↦ elim (cases_lt a 237) [ inl u ↦ inr (inl (omega (arith, u))) | inr u ↦ inr (inr (omega (arith, u, t.1))) ] ] in
    let least_value : 2048 ≤ c = elim b3 [ inl t ↦ omega (arith, t) | inr t ↦ omega (arith, t) ] in
    let x : a ≡ 224 + c / 4096 = omega arith in
    let y : b ≡ 128 + c / 64 % 64 = omega arith in
    let z : d ≡ 128 + c % 64 = omega arith in
    record {
      scalar = elim b4 [
        | inl t ↦ elim (cases_lt a 238) [ inl u ↦ low_scalar c (omega (arith, t, u)) | inr u ↦ high_scalar c (omega (arith, u)) (omega arith) ]
        | inr t ↦ elim t [ inl u ↦ low_scalar c (omega (arith, u)) | inr u ↦ high_scalar c (omega (arith, u)) (omega arith) ]
      ];
      bytes = ap (λ v. v ∷ b ∷ d ∷ []) x ∙ (ap (λ v. (224 + c / 4096) ∷ v ∷ d ∷ []) y ∙ (ap (λ v. (224 + c / 4096) ∷ (128 + c / 64 % 64) ∷ v ∷ []) z
          ∙ sym (encode_three c least_value (omega arith))));
    }

back_four : (a b d f c : ℕ) → 240 ≤ a → a ≤ 244 → second_byte_min a ≤ b → b ≤ second_byte_max a → 128 ≤ d → d ≤ 191 → 128 ≤ f → f ≤ 191 →
    (((a - 240) * 64 + (b - 128)) * 64 + (d - 128)) * 64 + (f - 128) ≡ c → Encodes (a ∷ b ∷ d ∷ f ∷ []) c
back_four a b d f c h i low high j k n o e =
    let l = least_is a b low in
    let m = most_is a b high in
    let b1 : 128 ≤ b = l.0 in
    let b2 : b ≤ 191 = m.0 in
    let b3 : (144 ≤ b) ⊎ (241 ≤ a) = elim (eqb_tells a 240) [ inl t ↦ inl (l.2 t.1) | inr t ↦ inr (omega (arith, t.1)) ] in
    let b4 : (b ≤ 143) ⊎ (a ≤ 243) = elim (eqb_tells a 244) [ inl t ↦ inl (m.2 t.1) | inr t ↦ inr (omega (arith, t.1)) ] in
    let least_value : 65536 ≤ c = elim b3 [ inl t ↦ omega (arith, t) | inr t ↦ omega (arith, t) ] in
    let most_value : c < 1114112 = elim b4 [ inl t ↦ omega (arith, t) | inr t ↦ omega (arith, t) ] in
    let x : a ≡ 240 + c / 262144 = omega arith in
    let y : b ≡ 128 + c / 4096 % 64 = omega arith in
    let z : d ≡ 128 + c / 64 % 64 = omega arith in
    let w : f ≡ 128 + c % 64 = omega arith in
    record {
      scalar = high_scalar c (omega arith) most_value;
      bytes = ap (λ v. v ∷ b ∷ d ∷ f ∷ []) x ∙ (ap (λ v. (240 + c / 262144) ∷ v ∷ d ∷ f ∷ []) y ∙ (ap (λ v. (240 + c / 262144) ∷ (128 + c / 4096 % 64) ∷ v ∷ f ∷ []) z
          ∙ (ap (λ v. (240 + c / 262144) ∷ (128 + c / 4096 % 64) ∷ (128 + c / 64 % 64) ∷ v ∷ []) w ∙ sym (encode_four c least_value))));
    }

two_bytes : (a : ℕ) (bs : List ℕ) → 128 ≤ slice_index bs 0 → take 2 (a ∷ bs) ≡ a ∷ slice_index bs 0 ∷ []
two_bytes a [] h = absurd (omega (arith, h))
two_bytes a (b ∷ bs) h = refl

three_bytes : (a : ℕ) (bs : List ℕ) → 128 ≤ slice_index bs 0 → 128 ≤ slice_index bs 1 → take 3 (a ∷ bs) ≡ a ∷ slice_index bs 0 ∷ slice_index bs 1 ∷ []
three_bytes a [] h i = absurd (omega (arith, h))
three_bytes a (b ∷ bs) h i = ap (λ x. a ∷ x) (two_bytes b bs i)

four_bytes : (a : ℕ) (bs : List ℕ) → 128 ≤ slice_index bs 0 → 128 ≤ slice_index bs 1 → 128 ≤ slice_index bs 2 →
    take 4 (a ∷ bs) ≡ a ∷ slice_index bs 0 ∷ slice_index bs 1 ∷ slice_index bs 2 ∷ []
four_bytes a [] h i j = absurd (omega (arith, h))
four_bytes a (b ∷ bs) h i j = ap (λ x. a ∷ x) (three_bytes b bs i j)

value_is : (x c m n : ℕ) → Plain x m ≡ Plain c n → (x ≡ c) × (m ≡ n)
value_is x c m n h = (cc, cc)

at_length : (n m : ℕ) (bs cs : List ℕ) (c : ℕ) → m ≡ n → take m bs ≡ cs → Encodes cs c → Encodes (take n bs) c
at_length n m bs cs c h e x = subst (λ k. Encodes (take k bs) c) h (subst (λ ys. Encodes ys c) (sym e) x)

-- What is read as a character is what that character is encoded as.
from_four : (a : ℕ) (bs : List ℕ) (c n : ℕ) → last a (slice_index bs 0) (slice_index bs 1) (slice_index bs 2) ≡ Plain c n → Encodes (take n (a ∷ bs)) c
from_four a bs c n h =
    let b = slice_index bs 0 in
    let d = slice_index bs 1 in
    let f = slice_index bs 2 in
    elim (split (is_four a b d f) (Plain ((((a - 240) * 64 + (b - 128)) * 64 + (d - 128)) * 64 + (f - 128)) 4) (Stop Byte) (Plain c n) h) [
      | inl t ↦
          let u = both_are (is_in_range 240 244 a) (is_second a b && (is_tail d && is_tail f)) t.0 in
          let v = both_are (is_second a b) (is_tail d && is_tail f) u.1 in
          let w = both_are (is_tail d) (is_tail f) v.1 in
          let ra = range_is 240 244 a u.0 in
          let rb = range_is (second_byte_min a) (second_byte_max a) b v.0 in
          let rd = range_is 128 191 d w.0 in
          let rf = range_is 128 191 f w.1 in
          let e = value_is ((((a - 240) * 64 + (b - 128)) * 64 + (d - 128)) * 64 + (f - 128)) c 4 n t.1 in
          at_length n 4 (a ∷ bs) (a ∷ b ∷ d ∷ f ∷ []) c e.1 (four_bytes a bs (least_is a b rb.0).0 rd.0 rf.0) (back_four a b d f c ra.0 ra.1 rb.0 rb.1 rd.0 rd.1 rf.0 rf.1 e.0)
      | inr t ↦ let k : Stop Byte ≡ Plain c n = t.1 in cc
    ]

from_three : (a : ℕ) (bs : List ℕ) (c n : ℕ) → after a (slice_index bs 0) (slice_index bs 1) (slice_index bs 2) ≡ Plain c n → Encodes (take n (a ∷ bs)) c
from_three a bs c n h =
    let b = slice_index bs 0 in
    let d = slice_index bs 1 in
    let f = slice_index bs 2 in
    elim (split (is_three a b d) (Plain (((a - 224) * 64 + (b - 128)) * 64 + (d - 128)) 3) (last a b d f) (Plain c n) h) [
      | inl t ↦
          let u = both_are (is_in_range 224 239 a) (is_second a b && is_tail d) t.0 in
          let v = both_are (is_second a b) (is_tail d) u.1 in
          let ra = range_is 224 239 a u.0 in
          let rb = range_is (second_byte_min a) (second_byte_max a) b v.0 in
          let rd = range_is 128 191 d v.1 in
          let e = value_is (((a - 224) * 64 + (b - 128)) * 64 + (d - 128)) c 3 n t.1 in
          at_length n 3 (a ∷ bs) (a ∷ b ∷ d ∷ []) c e.1 (three_bytes a bs (least_is a b rb.0).0 rd.0) (back_three a b d c ra.0 ra.1 rb.0 rb.1 rd.0 rd.1 e.0)
      | inr t ↦ from_four a bs c n t.1
    ]

from_two : (a : ℕ) (bs : List ℕ) (c n : ℕ) →
    cond (is_two a (slice_index bs 0)) (Plain ((a - 192) * 64 + (slice_index bs 0 - 128)) 2) (after a (slice_index bs 0) (slice_index bs 1) (slice_index bs 2)) ≡ Plain c n →
    Encodes (take n (a ∷ bs)) c
from_two a bs c n h =
    let b = slice_index bs 0 in
    elim (split (is_two a b) (Plain ((a - 192) * 64 + (b - 128)) 2) (after a b (slice_index bs 1) (slice_index bs 2)) (Plain c n) h) [
      | inl t ↦
          let u = both_are (is_in_range 194 223 a) (is_tail b) t.0 in
          let ra = range_is 194 223 a u.0 in
          let rb = range_is 128 191 b u.1 in
          let e = value_is ((a - 192) * 64 + (b - 128)) c 2 n t.1 in
          at_length n 2 (a ∷ bs) (a ∷ b ∷ []) c e.1 (two_bytes a bs rb.0) (back_two a b c ra.0 ra.1 rb.0 rb.1 e.0)
      | inr t ↦ from_three a bs c n t.1
    ]

pub encoded : (a : ℕ) (bs : List ℕ) (c n : ℕ) → character_front (a ∷ bs) ≡ Plain c n → IsScalar c × (take n (a ∷ bs) ≡ encode c)
unfolding character_front
encoded a bs c n h = let x = by_first a bs c n (cases_lt a 128) h in (x.scalar, x.bytes)
  where
    by_first : (a : ℕ) (bs : List ℕ) (c n : ℕ) → (a < 128) ⊎ (128 ≤ a) → character_of a (slice_index bs 0) (slice_index bs 1) (slice_index bs 2) ≡ Plain c n → Encodes (take n (a ∷ bs)) c
    by_first a bs c n (inl l) h =
        let e : Plain a 1 ≡ Plain c n = ap (λ t. cond t (Plain a 1) (cond (is_two a (slice_index bs 0)) (Plain ((a - 192) * 64 + (slice_index bs 0 - 128)) 2) (after a (slice_index bs 0) (slice_index bs 1) (slice_index bs 2)))) (sym (lt-ltb a 128 l)) ∙ h in
        let v = value_is a c 1 n e in
        let s : a < 55296 = omega (arith, l) in
        let here : Encodes (a ∷ []) a = record { scalar = low_scalar a s; bytes = sym (encode_one a l) } in
        at_length n 1 (a ∷ bs) (a ∷ []) c v.1 refl (subst (λ k. Encodes (a ∷ []) k) v.0 here)
    by_first a bs c n (inr l) h =
        from_two a bs c n (ap (λ t. cond t (Plain a 1) (cond (is_two a (slice_index bs 0)) (Plain ((a - 192) * 64 + (slice_index bs 0 - 128)) 2) (after a (slice_index bs 0) (slice_index bs 1) (slice_index bs 2)))) (sym (le-ltb a 128 l)) ∙ h)
