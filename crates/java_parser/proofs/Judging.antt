-- What is found of a file is what it spells, or its fault.
use Rattle.std.proofs.Common.{◌≡◌, ◌≤◌, ◌<◌, ℕ, List, length, Option, Some, None, refl, ap, sym, ◌∙◌, subst, inl, inr, arith, slice_get}
use Rattle.std.proofs.lemmas.Bool.{cases_lt}
use Rattle.std.proofs.lemmas.List.{length-map}
use Rattle.std.proofs.lemmas.Option.{slice_get_past}
use Rattle.java_tree.specs.declared.tokens.JToken.{JToken}
use Rattle.java_tree.specs.declared.tokens.Comment.{Comment}
use Rattle.java_tree.specs.declared.tokens.Tokens as files
use Rattle.java_tree.specs.Seen.{Tokens, token_seen, seen}
use Rattle.java_brackets.specs.declared.flaws.Flaw.{Flaw}
use Rattle.java_brackets.specs.declared.flaws.Flaw.TheVariants as w
use Rattle.java_brackets.specs.declared.stack.Bracket.TheVariants as b
use Rattle.java_brackets.specs.Brackets.{IsBracket, IsOpening, bracket_of, bracket_at, IsFlawed}
use Rattle.java_brackets.proofs.LawsToCite.{one_first}
use Rattle.java_member_grammar.specs.declared.lines.JPackage.{JPackage}
use Rattle.java_member_grammar.specs.declared.lines.JImport.{JImport}
use Rattle.java_unit_grammar.specs.declared.statements.JMember.{JMember}
use Rattle.java_unit_grammar.specs.declared.units.JUnit.{JUnit}
use Rattle.java_unit_grammar.specs.Reading as r
use Rattle.java_unit_grammar.specs.Tokens.{unit_tokens}
use Rattle.java_unit_grammar.specs.Standing.{UnitSpells}
use Rattle.java_unit_grammar.proofs.LawsToCite.{unit_is_read, unit_is_spelled, units_one}
use Rattle.java_fault_grammar.specs.Walk.{IsFault, IsSpelled}
use Rattle.java_fault_grammar.proofs.LawsToCite.{spelled_read, none_left}
use Rattle.java_fault_grammar.proofs.LawsToCite.Faults as runs
use Rattle.java_fault_finder.specs.Walks.{IsWalked}
use Rattle.java_unit_parser.specs.declared.files.Declared.{Declared}
use Rattle.java_parser.specs.declared.faults.SyntaxFault.{SyntaxFault}
use Rattle.java_parser.specs.declared.faults.SyntaxFault.TheVariants as f
use Rattle.java_parser.specs.declared.parsing.Judged.{Judged}
use Rattle.java_parser.specs.declared.parsing.Judged.TheVariants as j
use Rattle.java_parser.specs.Spelling.{HasNoFlaw, JSpells, IsFaulty, fault_in}
use Rattle.java_parser.specs.Judging.{IsRead, IsJudged}

size : (list : List JToken) → length (seen list) ≡ length list
unfolding seen
size list = length-map list token_seen

abbrev Declares : JUnit → r.Declared
Declares unit = record { within = unit.package; imports = unit.imports; types = unit.types }

-- ---- units

unit_read_as : (list : List JToken) (unit : JUnit) → UnitSpells unit (seen list) → r.unit_read (length list) (seen list) ≡ Some (Declares unit)
unit_read_as list unit s =
    ap (λ (n : ℕ). r.unit_read n (seen list)) (sym (size list)) ∙ ap (r.unit_read (length (seen list))) (sym s.same) ∙ unit_is_read (length (seen list)) unit s.stands

-- the unit of what a file declares
abbrev pub unit_of : files.Tokens → Declared → JUnit
unit_of file x = record { path = file.path; «package» = x.within; imports = x.imports; types = x.types; comments = file.comments }

unit_spells : (file : files.Tokens) (x : Declared) → IsRead file.list x → UnitSpells (unit_of file x) (seen file.list)
unfolding unit_tokens
unit_spells file x h =
    let ts : Tokens = seen file.list in
    let e : r.unit_read (length ts) ts ≡ Some (Declares (unit_of file x)) = ap (λ (n : ℕ). r.unit_read n ts) (size file.list) ∙ h.read in
    let d = unit_is_spelled (length ts) ts (Declares (unit_of file x)) e in
    record { stands = d.stand; same = sym d.same }

pub spells : (file : files.Tokens) (x : Declared) → IsRead file.list x → JSpells (unit_of file x) file
spells file x h = record { whole = h.whole; spelled = unit_spells file x h; path = refl; comments = refl }

abbrev made : List ℕ → Option JPackage → List JImport → List JMember → List Comment → JUnit
made path within imports types comments = record { path = path; «package» = within; imports = imports; types = types; comments = comments }

pub same_unit : (file : files.Tokens) (u v : JUnit) → JSpells u file → JSpells v file → u ≡ v
same_unit file u v x y =
    let e = units_one u v (seen file.list) x.spelled y.spelled in
    ap (λ (z : List ℕ). made z u.package u.imports u.types u.comments) (x.path ∙ sym y.path)
    ∙ ap (λ (z : Option JPackage). made v.path z u.imports u.types u.comments) e.0
    ∙ ap (λ (z : List JImport). made v.path v.package z u.types u.comments) e.1
    ∙ ap (λ (z : List JMember). made v.path v.package v.imports z u.comments) e.2
    ∙ ap (λ (z : List Comment). made v.path v.package v.imports v.types z) (x.comments ∙ sym y.comments)

-- ---- faults

-- A unit and a fault exclude each other.
pub no_unit : (file : files.Tokens) (u : JUnit) (fault : SyntaxFault) (n : ℕ) → JSpells u file → IsFaulty file.list fault n → ⊥
no_unit file u f.Unmatched n s h = s.whole n w.Lonely h.0
no_unit file u f.TooDeep n s h = s.whole n w.TooDeep h.0
no_unit file u f.NoForm n s h = h.1 u s.spelled

pub same_fault : (list : List JToken) (x y : SyntaxFault) (n m : ℕ) → IsFaulty list x n → IsFaulty list y m → (x ≡ y) × (n ≡ m)
same_fault list f.Unmatched f.Unmatched n m h g = (refl, (one_first (seen list) n m w.Lonely w.Lonely h g).0)
same_fault list f.Unmatched f.TooDeep n m h g = absurd (cc ((one_first (seen list) n m w.Lonely w.TooDeep h g).1))
same_fault list f.TooDeep f.Unmatched n m h g = absurd (cc ((one_first (seen list) n m w.TooDeep w.Lonely h g).1))
same_fault list f.TooDeep f.TooDeep n m h g = (refl, (one_first (seen list) n m w.TooDeep w.TooDeep h g).0)
same_fault list f.NoForm f.NoForm n m h g = (refl, runs.one (seen list) n m h.2 g.2)
same_fault list f.NoForm f.Unmatched n m h g = absurd (h.0 m w.Lonely g.0)
same_fault list f.NoForm f.TooDeep n m h g = absurd (h.0 m w.TooDeep g.0)
same_fault list f.Unmatched f.NoForm n m h g = absurd (g.0 n w.Lonely h.0)
same_fault list f.TooDeep f.NoForm n m h g = absurd (g.0 n w.TooDeep h.0)

pub same_told : (file : files.Tokens) (x y : SyntaxFault) (n m : ℕ) (a b : JToken) → IsFaulty file.list x n → IsFaulty file.list y m
    → slice_get file.list n ≡ Some a → slice_get file.list m ≡ Some b → fault_in file.path x a.position ≡ fault_in file.path y b.position
same_told file x y n m a b h g at bt =
    let e = same_fault file.list x y n m h g in
    let same : Some a ≡ Some b = sym at ∙ ap (slice_get file.list) e.1 ∙ bt in
    let token : a ≡ b = cc in
    ap (λ (z : SyntaxFault). fault_in file.path z a.position) e.0 ∙ ap (λ (z : JToken). fault_in file.path y z.position) token

-- ---- the token at fault

no_bracket : (ts : Tokens) (n : ℕ) → length ts ≤ n → bracket_at ts n ≡ b.Other
unfolding bracket_at
no_bracket ts n h = ap bracket_of (slice_get_past ts n h)

flaw_within : (ts : Tokens) (n : ℕ) (flaw : Flaw) → IsFlawed ts n flaw → n < length ts
flaw_within ts n w.Lonely h =
    elim (cases_lt n (length ts)) [ inl less ↦ less | inr ge ↦ absurd (subst IsBracket (no_bracket ts n ge) h.0) ]
flaw_within ts n w.TooDeep h =
    elim (cases_lt n (length ts)) [ inl less ↦ less | inr ge ↦ absurd (subst IsOpening (no_bracket ts n ge) h.0) ]

fault_within : (list : List JToken) (fault : SyntaxFault) (n : ℕ) → IsFaulty list fault n → n < length (seen list)
fault_within list f.Unmatched n h = flaw_within (seen list) n w.Lonely h.0
fault_within list f.TooDeep n h = flaw_within (seen list) n w.TooDeep h.0
fault_within list f.NoForm n h = h.2.begins

pub within : (list : List JToken) (fault : SyntaxFault) (n : ℕ) → IsFaulty list fault n → n < length list
within list fault n h = let e = size list in let l = fault_within list fault n h in omega (arith, e, l)

-- ---- what is judged

pub judged_unit : (list now : List JToken) (found : Judged) (x : Declared) → now ≡ list → found ≡ j.Unit x → IsJudged now found → IsRead list x
judged_unit list now found x same is h = subst (λ (z : List JToken). IsJudged z (j.Unit x)) same (subst (IsJudged now) is h)

pub judged_fault : (list now : List JToken) (found : Judged) (fault : SyntaxFault) (n : ℕ) → now ≡ list → found ≡ j.Fault fault n → IsJudged now found → IsFaulty list fault n
judged_fault list now found fault n same is h = subst (λ (z : List JToken). IsJudged z (j.Fault fault n)) same (subst (IsJudged now) is h)

pub no_form : (list : List JToken) (n : ℕ) → HasNoFlaw (seen list) → r.unit_read (length list) (seen list) ≡ None → IsFault (seen list) n → IsFaulty list f.NoForm n
no_form list n whole unread h =
    (whole, λ unit s. let e : None ≡ Some (Declares unit) = sym unread ∙ unit_read_as list unit s in cc, h)

-- Where nothing is read, not each run is spelled.
pub not_walked : (list : List JToken) → HasNoFlaw (seen list) → r.unit_read (length list) (seen list) ≡ None → IsWalked (seen list) → ⊥
not_walked list whole unread walked =
    let ended = none_left (seen list) walked.forms walked.state whole walked.leads in
    let spelled : IsSpelled (seen list) = record { forms = walked.forms; state = walked.state; leads = walked.leads; ended = ended } in
    let d = spelled_read (seen list) spelled in
    let e : None ≡ Some d.0 = sym unread ∙ ap (λ (n : ℕ). r.unit_read n (seen list)) (sym (size list)) ∙ d.1 in
    cc
