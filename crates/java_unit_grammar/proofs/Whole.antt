-- Members that stand in no expression, and units: what is read is spelled so and stands, and what stands is read again.
use Rattle.std.proofs.Common.{◌≡◌, ◌≤◌, ℕ, zero, suc, Bool, true, false, not, List, [], ◌∷◌, ◌++◌, length, map, Option, Some, None, inl, inr, refl, ap, sym, ◌∙◌, subst, append_assoc, arith}
use Rattle.std.proofs.lemmas.List.{append-nil, length-append}
use Rattle.std.specs.List.{AllByRecursion}
use Rattle.java_tree.specs.declared.tokens.Position.{Position}
use Rattle.java_tree.specs.declared.tokens.Mark.TheVariants as m
use Rattle.java_tree.specs.declared.tokens.Keyword.TheVariants as w
use Rattle.java_tree.specs.Seen.{Token, Tokens}
use Rattle.java_tree.specs.declared.types.JDotted.{JDotted}
use Rattle.java_tree.specs.Trees.{dotted_tokens, max_depth}
use Rattle.java_expr_grammar.specs.Reading.{◌>>=◌, whole}
use Rattle.java_expr_grammar.proofs.LawsToCite.{bind_some, cond_is, some_same}
use Rattle.java_statement_grammar.proofs.LawsToCite.{whole_only}
use Rattle.java_member_grammar.specs.declared.homes.JHome.TheVariants as home
use Rattle.java_member_grammar.specs.declared.modifiers.ModifierKind.{ModifierKind}
use Rattle.java_member_grammar.specs.declared.modifiers.ModifierKind.TheVariants as modifier
use Rattle.java_member_grammar.specs.declared.modifiers.JModifier.{JModifier}
use Rattle.java_member_grammar.specs.declared.heads.JMemberHead.{JMemberHead}
use Rattle.java_member_grammar.specs.declared.heads.JMemberHead.TheVariants as head
use Rattle.java_member_grammar.specs.declared.heads.JTypeHead.{JTypeHead}
use Rattle.java_member_grammar.specs.declared.heads.JTypeHead.TheVariants as kind
use Rattle.java_member_grammar.specs.declared.lines.JConstants.{JConstants}
use Rattle.java_member_grammar.specs.declared.lines.JPackage.{JPackage}
use Rattle.java_member_grammar.specs.declared.lines.JImport.{JImport}
use Rattle.java_member_grammar.specs.declared.lines.JStar.{JStar}
use Rattle.java_member_grammar.specs.Heads.{modifier_tokens, modifiers_tokens, member_tokens, type_head_tokens, package_tokens, import_tokens, star_tokens}
use Rattle.java_member_grammar.specs.Reading.{package_line, import_line}
use Rattle.java_member_grammar.proofs.LawsToCite.{package_is_spelled, package_is_read, import_is_spelled, import_is_read}
use Rattle.java_unit_grammar.specs.declared.statements.JBody.{JBody}
use Rattle.java_unit_grammar.specs.declared.statements.JMember.{JMember, out-JMember, roll-JMember, roll-out-JMember}
use Rattle.java_unit_grammar.specs.declared.statements.JMember.TheVariants as member
use Rattle.java_unit_grammar.specs.declared.statements.JStatement.{JStatement}
use Rattle.java_unit_grammar.specs.declared.statements.JBody.TheOpen.{JMember-F}
use Rattle.java_unit_grammar.specs.declared.units.JUnit.{JUnit}
use Rattle.java_unit_grammar.specs.Tokens.{joined, filled, braced, constants_by, body_tokens, statement_tokens, whole_member_tokens, package_part, unit_tokens}
use Rattle.java_unit_grammar.specs.Standing.{Owner, home_of, NodeStands, TopStands, FileStands, top_levels, top_stands, file_stands, steps, UnitSpells}
use Rattle.java_unit_grammar.specs.Reading as r
use Rattle.java_unit_grammar.proofs.Texts.{tokens_Declared, tokens_Bodied, tokens_Type}
use Rattle.java_unit_grammar.proofs.StatementSoundness.{many_sound}
use Rattle.java_unit_grammar.proofs.MemberSoundness.{Layer, MemberIs, member_made, declared_sound, bodied_sound, type_sound}
use Rattle.java_unit_grammar.proofs.Soundness.{sounds}
use Rattle.java_unit_grammar.proofs.Quiet.{Quiet, is_quiet, member_quiet, head_quiet, member_no_type, head_is_type}
use Rattle.java_unit_grammar.proofs.StatementCompleteness.{Items, until_again, Member_begins}
use Rattle.java_unit_grammar.proofs.MemberCompleteness.{fits_precede, declared_again, bodied_again, type_again, Nested, carried, declared_goes, curly_declared, Begins_by, member_begins}
use Rattle.java_unit_grammar.proofs.Completeness.{agains}

-- ---- members

top_sound : (n : ℕ) (owner : Owner) → ((owner : Owner) (ts : Tokens) (y : JMember × Tokens) → r.tops n owner ts ≡ Some y → (ts ≡ whole_member_tokens y.0 ++ y.1) × TopStands n owner y.0)
    → (ts : Tokens) (y : JMember × Tokens) → r.top_step (r.readers steps) (r.tops n) owner ts ≡ Some y → MemberIs (top_stands (NodeStands steps) (TopStands n) owner) ts y
unfolding r.top_step
top_sound n owner nested ts y e =
    let P = NodeStands steps in
    let Q : Layer → Type 0 = top_stands (NodeStands steps) (TopStands n) owner in
    elim (cond_is (r.goes_declared ts) _ _ _ e) [
      | inl h ↦ declared_sound P (r.readers steps) (sounds steps) max_depth (suc max_depth) 199 top_levels owner Q (λ x bodies end fits stands heads. (fits, stands, heads)) ts y h.1
      | inr h ↦ elim (cond_is (r.goes_type ts) _ _ _ h.1) [
        | inl g ↦ type_sound P (r.readers steps) (sounds steps) max_depth (r.tops n) (TopStands n) nested (home_of owner) Q
            (λ x left cs bodies xs right fits stands constants follows all. (fits, stands, constants, follows, all)) ts y g.1
        | inr g ↦ bodied_sound P (r.readers steps) (sounds steps) max_depth (suc max_depth) max_depth owner Q (λ x left xs right fits stands block. (fits, stands, block)) ts y g.1
      ]
    ]

pub tops_sound : (n : ℕ) (owner : Owner) (ts : Tokens) (y : JMember × Tokens) → r.tops n owner ts ≡ Some y → (ts ≡ whole_member_tokens y.0 ++ y.1) × TopStands n owner y.0
unfolding r.tops TopStands
tops_sound zero owner ts y e = absurd (cc e)
tops_sound (suc n) owner ts y e = let i = top_sound n owner (λ owner ts y e. tops_sound n owner ts y e) ts y e in (i.same, i.stands)

module _ (n : ℕ) (nested : Nested (NodeStands steps) (r.readers steps) (agains steps) (r.tops n) (TopStands n)) where
  declared_step : (owner : Owner) (x : JMemberHead) (xs : List JBody) (end : Position) (rest : Tokens) → top_stands (NodeStands steps) (TopStands n) owner (JMember-F.Declared x xs end)
      → r.top_step (r.readers steps) (r.tops n) owner ((filled (member_tokens x) (map body_tokens xs) ++ Token.Sign m.Semicolon end ∷ []) ++ rest) ≡ Some (member.Declared x xs end, rest)
  unfolding r.top_step
  declared_step owner x xs end rest s =
      rw (declared_goes (NodeStands steps) (r.readers steps) (agains steps) max_depth (suc max_depth) owner x xs end rest s.0 s.1).goes
      (declared_again (NodeStands steps) (r.readers steps) (agains steps) max_depth (suc max_depth) 199 top_levels owner x xs end rest s.0 s.1 s.2)

  bodied_step : (owner : Owner) (x : JMemberHead) (left : Position) (xs : List JStatement) (right : Position) (rest : Tokens) → top_stands (NodeStands steps) (TopStands n) owner (JMember-F.Bodied x left xs right)
      → r.top_step (r.readers steps) (r.tops n) owner ((member_tokens x ++ braced left (map statement_tokens xs) right) ++ rest) ≡ Some (member.Bodied x left xs right, rest)
  unfolding r.top_step
  bodied_step owner x left xs right rest s =
      let may = fits_precede owner true x s.0 in
      let inner : Tokens = joined (map statement_tokens xs) ++ Token.Sign m.CloseCurly right ∷ [] in
      let g = curly_declared (NodeStands steps) (r.readers steps) (agains steps) (member_tokens x) left inner rest (member_quiet max_depth (suc max_depth) x may s.1) in
      let t : r.goes_type ((member_tokens x ++ braced left (map statement_tokens xs) right) ++ rest) ≡ false =
      ap r.goes_type (append_assoc (member_tokens x) (braced left (map statement_tokens xs) right) rest) ∙ member_no_type max_depth (suc max_depth) x left (inner ++ rest) may s.1 in
      rw (g, t) (bodied_again (NodeStands steps) (r.readers steps) (agains steps) max_depth (suc max_depth) max_depth owner x left xs right rest s.0 s.1 s.2)

  type_step : (owner : Owner) (x : JTypeHead) (left : Position) (cs : Option JConstants) (bodies : List JBody) (xs : List JMember) (right : Position) (rest : Tokens)
      → top_stands (NodeStands steps) (TopStands n) owner (JMember-F.Type x left cs bodies xs right)
      → r.top_step (r.readers steps) (r.tops n) owner ((type_head_tokens x ++ Token.Sign m.OpenCurly left ∷ (constants_by cs (map body_tokens bodies) ++ (joined (map whole_member_tokens xs) ++ Token.Sign m.CloseCurly right ∷ []))) ++ rest)
      ≡ Some (member.Type x left cs bodies xs right, rest)
  unfolding r.top_step
  type_step owner x left cs bodies xs right rest s =
      let inner : Tokens = constants_by cs (map body_tokens bodies) ++ (joined (map whole_member_tokens xs) ++ Token.Sign m.CloseCurly right ∷ []) in
      let g = curly_declared (NodeStands steps) (r.readers steps) (agains steps) (type_head_tokens x) left inner rest (head_quiet max_depth x s.1) in
      let t : r.goes_type ((type_head_tokens x ++ Token.Sign m.OpenCurly left ∷ inner) ++ rest) ≡ true =
      ap r.goes_type (append_assoc (type_head_tokens x) (Token.Sign m.OpenCurly left ∷ inner) rest) ∙ head_is_type x (Token.Sign m.OpenCurly left ∷ (inner ++ rest)) in
      rw (g, t) (type_again (NodeStands steps) (r.readers steps) (agains steps) max_depth (r.tops n) (TopStands n) nested (home_of owner) x left cs bodies xs right rest s.0 s.1 s.2 s.3 s.4)

  top_layer : (owner : Owner) (layer : Layer) (rest : Tokens) → top_stands (NodeStands steps) (TopStands n) owner layer
      → r.top_step (r.readers steps) (r.tops n) owner (whole_member_tokens (roll-JMember layer) ++ rest) ≡ Some (roll-JMember layer, rest)
  top_layer owner (JMember-F.Declared x xs end) rest s =
      carried (NodeStands steps) (r.readers steps) (agains steps) (r.top_step (r.readers steps) (r.tops n) owner) (JMember-F.Declared x xs end) (member.Declared x xs end) _ rest (member.rolls-Declared x xs end) (tokens_Declared x xs end)
      (declared_step owner x xs end rest s)
  top_layer owner (JMember-F.Bodied x left xs right) rest s =
      carried (NodeStands steps) (r.readers steps) (agains steps) (r.top_step (r.readers steps) (r.tops n) owner) (JMember-F.Bodied x left xs right) (member.Bodied x left xs right) _ rest (member.rolls-Bodied x left xs right)
      (tokens_Bodied x left xs right) (bodied_step owner x left xs right rest s)
  top_layer owner (JMember-F.Type x left cs bodies xs right) rest s =
      carried (NodeStands steps) (r.readers steps) (agains steps) (r.top_step (r.readers steps) (r.tops n) owner) (JMember-F.Type x left cs bodies xs right) (member.Type x left cs bodies xs right) _ rest
      (member.rolls-Type x left cs bodies xs right) (tokens_Type x left cs bodies xs right) (type_step owner x left cs bodies xs right rest s)

by_top : (n : ℕ) (owner : Owner) (layer : Layer) → top_stands (NodeStands steps) (TopStands n) owner layer → Begins_by max_depth (suc max_depth) owner layer
by_top n owner (JMember-F.Declared x xs at) s = (s.0, s.1)
by_top n owner (JMember-F.Bodied x left xs right) s = (s.0, s.1)
by_top n owner (JMember-F.Type x left cs bodies xs right) s = s.1

pub tops_begin : (n : ℕ) (owner : Owner) (x : JMember) → TopStands n owner x → Member_begins (whole_member_tokens x)
unfolding TopStands
tops_begin zero owner x s = absurd s
tops_begin (suc n) owner x s = member_begins (NodeStands steps) (r.readers steps) (agains steps) max_depth (suc max_depth) owner x (by_top n owner (out-JMember x) s)

pub tops_again : (n : ℕ) (owner : Owner) (x : JMember) → TopStands n owner x → (rest : Tokens) → r.tops n owner (whole_member_tokens x ++ rest) ≡ Some (x, rest)
unfolding r.tops TopStands
tops_again zero owner x s rest = absurd s
tops_again (suc n) owner x s rest =
    let nested : Nested (NodeStands steps) (r.readers steps) (agains steps) (r.tops n) (TopStands n) = record { reads = λ owner x s rest. tops_again n owner x s rest; begins = λ owner x s. tops_begin n owner x s } in
    subst (λ (z : JMember). r.top_step (r.readers steps) (r.tops n) owner (whole_member_tokens z ++ rest) ≡ Some (z, rest)) (roll-out-JMember x) (top_layer n nested owner (out-JMember x) rest s)

pub nested_tops : (n : ℕ) → Nested (NodeStands steps) (r.readers steps) (agains steps) (r.tops n) (TopStands n)
nested_tops n = record { reads = λ owner x s rest. tops_again n owner x s rest; begins = λ owner x s. tops_begin n owner x s }

-- ---- what stands at the top of a file

abbrev begins_semicolon : Tokens → Bool
begins_semicolon (Token.Sign m.Semicolon at ∷ rest) = true
begins_semicolon _ = false

file_typed : (n : ℕ) (ts : Tokens) → begins_semicolon ts ≡ false → r.file_read n ts ≡ r.typed (r.readers steps) max_depth (r.tops n) home.File ts
unfolding r.file_read
file_typed n (Token.Sign m.Semicolon at ∷ rest) h = absurd (cc h)
file_typed n _ h = refl

pub file_sound : (n : ℕ) (ts : Tokens) (y : JMember × Tokens) → r.file_read n ts ≡ Some y → (ts ≡ whole_member_tokens y.0 ++ y.1) × FileStands n y.0
unfolding r.file_read
file_sound n (Token.Sign m.Semicolon at ∷ rest) y e =
    let Q : Layer → Type 0 = file_stands (NodeStands steps) (TopStands n) in
    let made = member_made (NodeStands steps) (r.readers steps) (sounds steps) Q (JMember-F.Declared head.Empty [] at) (member.Declared head.Empty [] at) (Token.Sign m.Semicolon at ∷ rest) rest (Token.Sign m.Semicolon at ∷ [])
    (member.rolls-Declared head.Empty [] at) (tokens_Declared head.Empty [] at) refl refl in
    let i = subst (MemberIs Q (Token.Sign m.Semicolon at ∷ rest)) (some_same e) made in
    (i.same, i.stands)
file_sound n ts y e =
    let Q : Layer → Type 0 = file_stands (NodeStands steps) (TopStands n) in
    let i = type_sound (NodeStands steps) (r.readers steps) (sounds steps) max_depth (r.tops n) (TopStands n) (tops_sound n) home.File Q
    (λ x left cs bodies xs right fits stands constants follows all. (fits, stands, constants, follows, all)) ts y e in
    (i.same, i.stands)

quiet_semicolon : (x : Token) (ts : Tokens) → is_quiet x ≡ true → begins_semicolon (x ∷ ts) ≡ false
quiet_semicolon (Token.Sign m.Semicolon at) ts h = absurd (cc h)
quiet_semicolon (Token.Sign _ at) ts h = refl
quiet_semicolon (Token.Word word at) ts h = refl
quiet_semicolon (Token.Id n at) ts h = refl
quiet_semicolon (Token.Literal x at) ts h = refl
quiet_semicolon (Token.ArrowBody at span) ts h = refl
quiet_semicolon (Token.CloseBody at span) ts h = refl

semicolon_past : (a b : Tokens) → Quiet a → begins_semicolon b ≡ false → begins_semicolon (a ++ b) ≡ false
semicolon_past [] b f h = h
semicolon_past (x ∷ a) b f h = quiet_semicolon x (a ++ b) f.0

file_layer : (n : ℕ) (layer : Layer) (rest : Tokens) → file_stands (NodeStands steps) (TopStands n) layer → r.file_read n (whole_member_tokens (roll-JMember layer) ++ rest) ≡ Some (roll-JMember layer, rest)
unfolding r.file_read
file_layer n (JMember-F.Declared head.Empty xs at) rest s =
    carried (NodeStands steps) (r.readers steps) (agains steps) (r.file_read n) (JMember-F.Declared head.Empty xs at) (member.Declared head.Empty xs at) _ rest (member.rolls-Declared head.Empty xs at) (tokens_Declared head.Empty xs at)
    (ap (λ (l : List JBody). Option.Some (member.Declared head.Empty l at, rest)) (sym s))
file_layer n (JMember-F.Declared (head.Field mods x) xs at) rest s = absurd s
file_layer n (JMember-F.Declared (head.Method mods params result name nat formals throws) xs at) rest s = absurd s
file_layer n (JMember-F.Declared (head.Constructor mods name nat formals throws) xs at) rest s = absurd s
file_layer n (JMember-F.Declared (head.Initializer static) xs at) rest s = absurd s
file_layer n (JMember-F.Bodied x left xs right) rest s = absurd s
file_layer n (JMember-F.Type x left cs bodies xs right) rest s =
    let inner : Tokens = constants_by cs (map body_tokens bodies) ++ (joined (map whole_member_tokens xs) ++ Token.Sign m.CloseCurly right ∷ []) in
    let text : Tokens = type_head_tokens x ++ Token.Sign m.OpenCurly left ∷ inner in
    let b : begins_semicolon (text ++ rest) ≡ false =
    ap begins_semicolon (append_assoc (type_head_tokens x) (Token.Sign m.OpenCurly left ∷ inner) rest) ∙ semicolon_past (type_head_tokens x) (Token.Sign m.OpenCurly left ∷ (inner ++ rest)) (head_quiet max_depth x s.1) refl in
    carried (NodeStands steps) (r.readers steps) (agains steps) (r.file_read n) (JMember-F.Type x left cs bodies xs right) (member.Type x left cs bodies xs right) text rest
    (member.rolls-Type x left cs bodies xs right) (tokens_Type x left cs bodies xs right)
    (file_typed n (text ++ rest) b ∙ type_again (NodeStands steps) (r.readers steps) (agains steps) max_depth (r.tops n) (TopStands n) (nested_tops n) home.File x left cs bodies xs right rest s.0 s.1 s.2 s.3 s.4)

pub file_again : (n : ℕ) (x : JMember) → FileStands n x → (rest : Tokens) → r.file_read n (whole_member_tokens x ++ rest) ≡ Some (x, rest)
file_again n x s rest = subst (λ (z : JMember). r.file_read n (whole_member_tokens z ++ rest) ≡ Some (z, rest)) (roll-out-JMember x) (file_layer n (out-JMember x) rest s)

-- ---- what a type at the top of a file begins with

modifier_file : (kind : ModifierKind) (at : Position) (ts : Tokens) → (r.begins_import (modifier_tokens (record { kind = kind; at = at }) ++ ts) ≡ false) × (r.begins_package (modifier_tokens (record { kind = kind; at = at }) ++ ts) ≡ false)
modifier_file modifier.Public at ts = (refl, refl)
modifier_file modifier.Protected at ts = (refl, refl)
modifier_file modifier.Private at ts = (refl, refl)
modifier_file modifier.Abstract at ts = (refl, refl)
modifier_file modifier.Static at ts = (refl, refl)
modifier_file modifier.Final at ts = (refl, refl)
modifier_file modifier.Synchronized at ts = (refl, refl)
modifier_file modifier.Volatile at ts = (refl, refl)
modifier_file modifier.Default at ts = (refl, refl)
modifier_file (modifier.Override p) at ts = (refl, refl)

record FileBegins (ts : Tokens) : Type 0 where
  no_import : r.begins_import ts ≡ false
  no_package : r.begins_package ts ≡ false

modifiers_file : (xs : List JModifier) (ts : Tokens) → FileBegins ts → FileBegins (modifiers_tokens xs ++ ts)
modifiers_file [] ts f = f
modifiers_file (x ∷ xs) ts f =
    let i = modifier_file x.kind x.at (modifiers_tokens xs ++ ts) in
    subst FileBegins (sym (append_assoc (modifier_tokens x) (modifiers_tokens xs) ts)) (record { no_import = i.0; no_package = i.1 })

begun_file : (mods : List JModifier) (a ts : Tokens) → FileBegins (a ++ ts) → FileBegins ((modifiers_tokens mods ++ a) ++ ts)
begun_file mods a ts f = subst FileBegins (sym (append_assoc (modifiers_tokens mods) a ts)) (modifiers_file mods (a ++ ts) f)

head_file : (x : JTypeHead) (ts : Tokens) → FileBegins (type_head_tokens x ++ ts)
head_file (kind.Class mods at n nat params above faces) ts = begun_file mods _ ts (record { no_import = refl; no_package = refl })
head_file (kind.Interface mods at n nat params above) ts = begun_file mods _ ts (record { no_import = refl; no_package = refl })
head_file (kind.Enum mods at n nat faces) ts = begun_file mods _ ts (record { no_import = refl; no_package = refl })

record FileStarts (ts : Tokens) : Type 0 where
  full : 1 ≤ length ts
  begins : (rest : Tokens) → FileBegins (ts ++ rest)

starts_made : (layer : Layer) (x : JMember) (text : Tokens) → roll-JMember layer ≡ x → whole_member_tokens x ≡ text → FileStarts text → FileStarts (whole_member_tokens (roll-JMember layer))
starts_made layer x text rolls spelled h = subst FileStarts (sym (ap whole_member_tokens rolls ∙ spelled)) h

starts_layer : (n : ℕ) (layer : Layer) → file_stands (NodeStands steps) (TopStands n) layer → FileStarts (whole_member_tokens (roll-JMember layer))
starts_layer n (JMember-F.Declared head.Empty xs at) s =
    starts_made (JMember-F.Declared head.Empty xs at) (member.Declared head.Empty xs at) _ (member.rolls-Declared head.Empty xs at) (tokens_Declared head.Empty xs at)
    (record { full = omega arith; begins = λ rest. record { no_import = refl; no_package = refl } })
starts_layer n (JMember-F.Declared (head.Field mods x) xs at) s = absurd s
starts_layer n (JMember-F.Declared (head.Method mods params result name nat formals throws) xs at) s = absurd s
starts_layer n (JMember-F.Declared (head.Constructor mods name nat formals throws) xs at) s = absurd s
starts_layer n (JMember-F.Declared (head.Initializer static) xs at) s = absurd s
starts_layer n (JMember-F.Bodied x left xs right) s = absurd s
starts_layer n (JMember-F.Type x left cs bodies xs right) s =
    let inner : Tokens = constants_by cs (map body_tokens bodies) ++ (joined (map whole_member_tokens xs) ++ Token.Sign m.CloseCurly right ∷ []) in
    let B : Tokens = Token.Sign m.OpenCurly left ∷ inner in
    starts_made (JMember-F.Type x left cs bodies xs right) (member.Type x left cs bodies xs right) _ (member.rolls-Type x left cs bodies xs right) (tokens_Type x left cs bodies xs right)
    (record {
      full = let l = length-append (type_head_tokens x) B in omega (arith, l);
      begins = λ rest. subst FileBegins (sym (append_assoc (type_head_tokens x) B rest)) (head_file x (B ++ rest));
    })

file_starts : (n : ℕ) (x : JMember) → FileStands n x → FileStarts (whole_member_tokens x)
file_starts n x s = subst (λ (z : JMember). FileStarts (whole_member_tokens z)) (roll-out-JMember x) (starts_layer n (out-JMember x) s)

types_begin : (n : ℕ) (xs : List JMember) → AllByRecursion (FileStands n) xs → FileBegins (joined (map whole_member_tokens xs) ++ [])
types_begin n [] all = record { no_import = refl; no_package = refl }
types_begin n (x ∷ xs) all =
    subst FileBegins (sym (append_assoc (whole_member_tokens x) (joined (map whole_member_tokens xs)) [])) ((file_starts n x all.0).begins (joined (map whole_member_tokens xs) ++ []))

types_items : (n : ℕ) → Items JMember whole_member_tokens (FileStands n) r.is_end (r.file_read n) (λ ts. true)
types_items n = record {
  reads = λ x s rest h. file_again n x s rest;
  full = λ x s. (file_starts n x s).full;
  runs = λ x s rest. runs (whole_member_tokens x) rest (file_starts n x s).full;
  follows = λ x s rest. refl;
}
  where
    runs : (ts rest : Tokens) → 1 ≤ length ts → r.is_end (ts ++ rest) ≡ false
    runs [] rest h = absurd (omega (arith, h))
    runs (t ∷ ts) rest h = refl

types_again : (n : ℕ) (xs : List JMember) → AllByRecursion (FileStands n) xs → r.until r.is_end (r.file_read n) (joined (map whole_member_tokens xs) ++ []) ≡ Some (xs, [])
types_again n xs all = until_again JMember whole_member_tokens (FileStands n) r.is_end (r.file_read n) (λ ts. true) (types_items n) xs [] all refl refl

-- ---- lines

line_text : (ts : Tokens) → ts ≡ (r.line ts).0 ++ (r.line ts).1
line_text [] = refl
line_text (Token.Sign m.Semicolon at ∷ rest) = refl
line_text (x ∷ rest) = ap (λ (l : Tokens). x ∷ l) (line_text rest)

-- what stands before the line's end
line_dotted : (xs : List JDotted) (us : Tokens) (y : Tokens × Tokens) → r.line us ≡ y → r.line (dotted_tokens xs ++ us) ≡ (dotted_tokens xs ++ y.0, y.1)
line_dotted [] us y h = h
line_dotted (x ∷ xs) us y h = ap (λ (p : Tokens × Tokens). (Token.Sign m.Dot x.dot ∷ Token.Id x.name x.at ∷ p.0, p.1)) (line_dotted xs us y h)

line_star : (x : Option JStar) (end : Position) (rest : Tokens) → r.line (star_tokens x ++ Token.Sign m.Semicolon end ∷ rest) ≡ (star_tokens x ++ Token.Sign m.Semicolon end ∷ [], rest)
line_star None end rest = refl
line_star (Some x) end rest = refl

package_split : (x : JPackage) (rest : Tokens) → r.line (package_tokens x ++ rest) ≡ (package_tokens x, rest)
package_split x rest =
    ap (λ (l : Tokens). r.line (Token.Word w.Package x.at ∷ Token.Id x.name.name x.name.at ∷ l)) (append_assoc (dotted_tokens x.name.rest) (Token.Sign m.Semicolon x.end ∷ []) rest)
    ∙ ap (λ (p : Tokens × Tokens). (Token.Word w.Package x.at ∷ Token.Id x.name.name x.name.at ∷ p.0, p.1)) (line_dotted x.name.rest (Token.Sign m.Semicolon x.end ∷ rest) (Token.Sign m.Semicolon x.end ∷ [], rest) refl)

import_split : (x : JImport) (rest : Tokens) → r.line (import_tokens x ++ rest) ≡ (import_tokens x, rest)
import_split x rest =
    ap (λ (l : Tokens). r.line (Token.Word w.Import x.at ∷ Token.Id x.name.name x.name.at ∷ l)) (
    append_assoc (dotted_tokens x.name.rest) (star_tokens x.star ++ Token.Sign m.Semicolon x.end ∷ []) rest
    ∙ ap (λ (l : Tokens). dotted_tokens x.name.rest ++ l) (append_assoc (star_tokens x.star) (Token.Sign m.Semicolon x.end ∷ []) rest)
    )
    ∙ ap (λ (p : Tokens × Tokens). (Token.Word w.Import x.at ∷ Token.Id x.name.name x.name.at ∷ p.0, p.1))
    (line_dotted x.name.rest (star_tokens x.star ++ Token.Sign m.Semicolon x.end ∷ rest) (star_tokens x.star ++ Token.Sign m.Semicolon x.end ∷ [], rest) (line_star x.star x.end rest))

package_again : (x : Option JPackage) (rest : Tokens) → r.begins_package rest ≡ false → r.package_read (package_part x ++ rest) ≡ Some (x, rest)
unfolding r.package_read
package_again None rest h = rw h refl
package_again (Some x) rest h =
    ap (λ (p : Tokens × Tokens). package_line p.0 >>= λ y. Some (Option.Some y, p.1)) (package_split x rest)
    ∙ ap (λ (o : Option JPackage). o >>= λ y. Some (Option.Some y, rest)) (package_is_read (package_tokens x) x refl)

package_sound : (ts : Tokens) (y : Option JPackage × Tokens) → r.package_read ts ≡ Some y → ts ≡ package_part y.0 ++ y.1
unfolding r.package_read
package_sound ts y e =
    let Q : Option JPackage × Tokens → Type 0 = λ y. ts ≡ package_part y.0 ++ y.1 in
    elim (cond_is (r.begins_package ts) _ _ _ e) [
      | inl h ↦ let a = bind_some (package_line (r.line ts).0) _ _ h.1 in
          subst Q (some_same a.2) (line_text ts ∙ ap (λ (l : Tokens). l ++ (r.line ts).1) (sym (package_is_spelled (r.line ts).0 a.0 a.1)))
      | inr h ↦ subst Q (some_same h.1) refl
    ]

abbrev Any : JImport → Type 0
Any x = Unit {0}

any : (xs : List JImport) → AllByRecursion Any xs
any [] = tt
any (x ∷ xs) = (tt, any xs)

import_again : (x : JImport) (rest : Tokens) → r.import_read (import_tokens x ++ rest) ≡ Some (x, rest)
unfolding r.import_read
import_again x rest =
    ap (λ (p : Tokens × Tokens). import_line p.0 >>= λ y. Some (y, p.1)) (import_split x rest)
    ∙ ap (λ (o : Option JImport). o >>= λ y. Some (y, rest)) (import_is_read (import_tokens x) x refl)

import_sound : (ts : Tokens) (y : JImport × Tokens) → r.import_read ts ≡ Some y → (ts ≡ import_tokens y.0 ++ y.1) × Any y.0
unfolding r.import_read
import_sound ts y e =
    let a = bind_some (import_line (r.line ts).0) _ _ e in
    let Q : JImport × Tokens → Type 0 = λ y. (ts ≡ import_tokens y.0 ++ y.1) × Any y.0 in
    subst Q (some_same a.2) (line_text ts ∙ ap (λ (l : Tokens). l ++ (r.line ts).1) (sym (import_is_spelled (r.line ts).0 a.0 a.1)), tt)

import_items : Items JImport import_tokens Any r.no_import r.import_read (λ ts. true)
import_items = record {
  reads = λ x s rest h. import_again x rest;
  full = λ x s. omega arith;
  runs = λ x s rest. refl;
  follows = λ x s rest. refl;
}

imports_begin : (xs : List JImport) (rest : Tokens) → r.begins_package rest ≡ false → r.begins_package (joined (map import_tokens xs) ++ rest) ≡ false
imports_begin [] rest h = h
imports_begin (x ∷ xs) rest h = refl

-- ---- units

abbrev Declares : JUnit → r.Declared
Declares unit = record { within = unit.package; imports = unit.imports; types = unit.types }

-- Parts of a file that stand are read again.
pub parts_are_read : (n : ℕ) (within : Option JPackage) (imports : List JImport) (types : List JMember) → AllByRecursion (FileStands n) types
    → r.unit_read n (package_part within ++ (joined (map import_tokens imports) ++ joined (map whole_member_tokens types))) ≡ Some (record { within = within; imports = imports; types = types })
unfolding r.unit_read
parts_are_read n within imports types all =
    let I : Tokens = joined (map import_tokens imports) in
    let T : Tokens = joined (map whole_member_tokens types) in
    let begins : FileBegins T = subst FileBegins (append-nil T) (types_begin n types all) in
    let p = package_again within (I ++ T) (imports_begin imports T begins.no_package) in
    let i = until_again JImport import_tokens Any r.no_import r.import_read (λ ts. true) import_items imports T (any imports) (ap not begins.no_import) refl in
    let t : r.until r.is_end (r.file_read n) T ≡ Some (types, []) = ap (r.until r.is_end (r.file_read n)) (sym (append-nil T)) ∙ types_again n types all in
    rw (p, i, t) refl

-- What a file declares is read again.
pub unit_is_read : (n : ℕ) (unit : JUnit) → AllByRecursion (FileStands n) unit.types → r.unit_read n (unit_tokens unit) ≡ Some (Declares unit)
unfolding unit_tokens
unit_is_read n unit all = parts_are_read n unit.package unit.imports unit.types all

-- What is read is what the tokens declare, and stands.
pub record DeclaredIs (n : ℕ) (ts : Tokens) (x : r.Declared) : Type 0 where
  pub same : ts ≡ package_part x.within ++ (joined (map import_tokens x.imports) ++ joined (map whole_member_tokens x.types))
  pub stand : AllByRecursion (FileStands n) x.types

pub unit_is_spelled : (n : ℕ) (ts : Tokens) (x : r.Declared) → r.unit_read n ts ≡ Some x → DeclaredIs n ts x
unfolding r.unit_read
unit_is_spelled n ts x e =
    let a = bind_some (r.package_read ts) _ _ e in
    let b = bind_some (r.until r.no_import r.import_read a.0.1) _ _ a.2 in
    let c = bind_some (whole (r.until r.is_end (r.file_read n) b.0.1)) _ _ b.2 in
    let p = package_sound ts a.0 a.1 in
    let i = (many_sound JImport import_tokens Any r.no_import r.import_read import_sound (length a.0.1) a.0.1 b.0 b.1).many in
    let t = (many_sound JMember whole_member_tokens (FileStands n) r.is_end (r.file_read n) (file_sound n) (length b.0.1) b.0.1 (c.0, []) (whole_only (r.until r.is_end (r.file_read n) b.0.1) c.0 c.1)).many in
    subst (DeclaredIs n ts) (some_same c.2) (record {
      same =
          p ∙ ap (λ (l : Tokens). package_part a.0.0 ++ l) (i.same ∙ ap (λ (l : Tokens). joined (map import_tokens b.0.0) ++ l) (t.same ∙ append-nil (joined (map whole_member_tokens c.0))));
      stand = t.all;
    })

read_unit : (unit : JUnit) (ts : Tokens) → UnitSpells unit ts → r.unit_read (length ts) ts ≡ Some (Declares unit)
read_unit unit ts s = ap (r.unit_read (length ts)) (sym s.same) ∙ unit_is_read (length ts) unit s.stands

pub unit_one : (x y : JUnit) (ts : Tokens) → UnitSpells x ts → UnitSpells y ts → Declares x ≡ Declares y
unit_one x y ts s t = some_same (sym (read_unit x ts s) ∙ read_unit y ts t)

pub units_one : (x y : JUnit) (ts : Tokens) → UnitSpells x ts → UnitSpells y ts → (x.package ≡ y.package) × (x.imports ≡ y.imports) × (x.types ≡ y.types)
units_one x y ts s t =
    let e = unit_one x y ts s t in
    (ap (λ (z : r.Declared). z.within) e, ap (λ (z : r.Declared). z.imports) e, ap (λ (z : r.Declared). z.types) e)
