-- What files spell, and their first fault, is one thing.
use Rattle.std.proofs.Common.{◌≡◌, inl, inr, ℕ, List, [], ◌∷◌, Some, None, refl, sym, ◌∙◌, ap, subst, map, slice_get}
use Rattle.j2k_base.specs.declared.places.Fault.{Fault}
use Rattle.j2k_base.specs.declared.series.SourceFile.{SourceFile}
use Rattle.java_tree.specs.declared.tokens.Comment.{Comment}
use Rattle.java_tree.specs.declared.tokens.JToken.{JToken}
use Rattle.java_tree.specs.declared.tokens.Tokens.{Tokens}
use Rattle.java_lexer.specs.declared.found.LexFault.{LexFault}
use Rattle.java_lexer.specs.Cutting.{Lexes, Faults}
use Rattle.java_lexer.specs.Lexing as lexing
use Rattle.java_lexer.proofs.LawsToCite.{reading_once}
use Rattle.java_unit_grammar.specs.declared.units.JUnit.{JUnit}
use Rattle.java_parser.specs.Spelling.{JSpells, IsFaulty, fault_in}
use Rattle.java_parser.proofs.LawsToCite.{same_unit, no_unit, same_told}
use Rattle.java_project.specs.Files.{HasTokens, HasUnit, HasTokenFault, HasSpellingFault, HasNone, NoneIn, AreUnits, FirstIn, IsSpelled, IsRefused}
use Rattle.java_project.proofs.Firsts.{none_first, first_once}

same_some : {A : Type 0} (x y : A) → Some x ≡ Some y → x ≡ y
same_some x y e = cc

-- ---- tokens

one_fault : (bytes : List ℕ) (f g : LexFault) → Faults bytes f → Faults bytes g → f ≡ g
one_fault bytes f g p q = same_some f g (reading_once bytes p.0 q.0 p.1 q.1 (Some f) (Some g) p.2 q.2).fault

apart_by : (bytes : List ℕ) (ts : List JToken) (cs : List Comment) (f : LexFault) → Lexes bytes ts cs → Faults bytes f → ⊥
apart_by bytes ts cs f p q = let e : None ≡ Some f = (reading_once bytes ts q.0 cs q.1 None (Some f) p q.2).fault in cc

-- a file with tokens has no fault of tokens
pub no_tokens : (file : SourceFile) (tokens : Tokens) (fault : Fault) → HasTokens file tokens → HasTokenFault file fault → ⊥
no_tokens file tokens fault p q = apart_by file.bytes tokens.list tokens.comments q.found p.lexes q.faults

abbrev made : List ℕ → List JToken → List Comment → Tokens
made path list comments = record { path = path; list = list; comments = comments }

pub same_tokens : (file : SourceFile) (a b : Tokens) → HasTokens file a → HasTokens file b → a ≡ b
same_tokens file a b p q =
    let same = reading_once file.bytes a.list b.list a.comments b.comments None None p.lexes q.lexes in
    ap (λ (x : List ℕ). made x a.list a.comments) (p.path ∙ sym q.path)
    ∙ ap (λ (x : List JToken). made b.path x a.comments) same.tokens
    ∙ ap (λ (x : List Comment). made b.path b.list x) same.comments

pub token_fault_once : (file : SourceFile) (f g : Fault) → HasTokenFault file f → HasTokenFault file g → f ≡ g
token_fault_once file f g p q = p.is ∙ ap (lexing.fault_in file.path) (one_fault file.bytes p.found q.found p.faults q.faults) ∙ sym q.is

-- ---- units

pub one_unit : (file : SourceFile) (u v : JUnit) → HasUnit file u → HasUnit file v → u ≡ v
one_unit file u v p q = same_unit p.tokens u v p.spells (subst (JSpells v) (same_tokens file q.tokens p.tokens q.has p.has) q.spells)

pub spelling_fault_once : (file : SourceFile) (f g : Fault) → HasSpellingFault file f → HasSpellingFault file g → f ≡ g
spelling_fault_once file f g p q =
    let same = same_tokens file q.tokens p.tokens q.has p.has in
    p.is
    ∙ same_told p.tokens p.found q.found p.number q.number p.token q.token p.faulty
    (subst (λ (t : Tokens). IsFaulty t.list q.found q.number) same q.faulty) p.stands (ap (λ (t : Tokens). slice_get t.list q.number) (sym same) ∙ q.stands)
    ∙ ap (λ (t : Tokens). fault_in t.path q.found q.token.position) (sym same)
    ∙ sym q.is

-- a file that spells a unit has no fault of spelling
pub unit_apart : (file : SourceFile) (u : JUnit) (fault : Fault) → HasUnit file u → HasSpellingFault file fault → ⊥
unit_apart file u fault p q =
    no_unit q.tokens u q.found q.number (subst (JSpells u) (same_tokens file p.tokens q.tokens p.has q.has) p.spells) q.faulty

-- ---- files

pub spelled_once : (files : List SourceFile) (us vs : List JUnit) → IsSpelled files us → IsSpelled files vs → us ≡ vs
spelled_once [] [] [] p q = refl
spelled_once [] (u ∷ us) vs p q = absurd p
spelled_once [] [] (v ∷ vs) p q = absurd q
spelled_once (file ∷ files) [] vs p q = absurd p
spelled_once (file ∷ files) (u ∷ us) [] p q = absurd q
spelled_once (file ∷ files) (u ∷ us) (v ∷ vs) p q =
    ap (λ (x : JUnit). x ∷ us) (one_unit file u v p.0 q.0) ∙ ap (λ (xs : List JUnit). v ∷ xs) (spelled_once files us vs p.1 q.1)

pub unit_paths : (files : List SourceFile) (us : List JUnit) → IsSpelled files us → map (λ (u : JUnit). u.path) us ≡ map (λ (f : SourceFile). f.path) files
unit_paths [] [] p = refl
unit_paths [] (u ∷ us) p = absurd p
unit_paths (file ∷ files) [] p = absurd p
unit_paths (file ∷ files) (u ∷ us) p =
    ap (λ (x : List ℕ). x ∷ map (λ (v : JUnit). v.path) us) (p.0.spells.path ∙ p.0.has.path) ∙ ap (λ (xs : List (List ℕ)). file.path ∷ xs) (unit_paths files us p.1)

-- files that spell units have no fault
pub no_fault : (files : List SourceFile) (us : List JUnit) → IsSpelled files us → NoneIn HasTokenFault files × NoneIn HasSpellingFault files
no_fault [] [] p = (tt, tt)
no_fault [] (u ∷ us) p = absurd p
no_fault (file ∷ files) [] p = absurd p
no_fault (file ∷ files) (u ∷ us) p =
    let more = no_fault files us p.1 in
    ((λ fault q. no_tokens file p.0.tokens fault p.0.has q, more.0), (λ fault q. unit_apart file u fault p.0 q, more.1))

pub apart : (files : List SourceFile) (us : List JUnit) (fault : Fault) → IsSpelled files us → IsRefused files fault → ⊥
apart files us fault p (inl q) = none_first HasTokenFault files fault (no_fault files us p).0 q
apart files us fault p (inr q) = none_first HasSpellingFault files fault (no_fault files us p).1 q.1

pub refused_once : (files : List SourceFile) (f g : Fault) → IsRefused files f → IsRefused files g → f ≡ g
refused_once files f g (inl p) (inl q) = first_once HasTokenFault token_fault_once files f g p q
refused_once files f g (inl p) (inr q) = absurd (none_first HasTokenFault files f q.0 p)
refused_once files f g (inr p) (inl q) = absurd (none_first HasTokenFault files g p.0 q)
refused_once files f g (inr p) (inr q) = first_once HasSpellingFault spelling_fault_once files f g p.1 q.1
