-- Where every run of a file is spelled, its forms give what it declares.
use Rattle.std.proofs.Common.{◌≡◌, ◌≤◌, ℕ, zero, suc, true, List, [], ◌∷◌, ◌++◌, length, map, Option, Some, None, refl, ap, sym, ◌∙◌, append_assoc, arith}
use Rattle.std.proofs.lemmas.List.{length-append}
use Rattle.std.specs.List.{AllByRecursion}
use Rattle.java_tree.specs.declared.tokens.Position.{Position}
use Rattle.java_tree.specs.declared.tokens.Mark.TheVariants as m
use Rattle.java_tree.specs.Seen.{Token, Tokens}
use Rattle.java_tree.specs.Trees.{max_depth}
use Rattle.java_member_grammar.specs.declared.homes.JHome.TheVariants as home
use Rattle.java_member_grammar.specs.declared.heads.JMemberHead.TheVariants as head
use Rattle.java_member_grammar.specs.declared.heads.JTypeHead.{JTypeHead}
use Rattle.java_member_grammar.specs.declared.lines.JPackage.{JPackage}
use Rattle.java_member_grammar.specs.declared.lines.JImport.{JImport}
use Rattle.java_member_grammar.specs.Heads.{type_head_tokens, import_tokens, TypeHeadStands}
use Rattle.java_member_grammar.specs.Modifiers.{type_fits}
use Rattle.java_unit_grammar.specs.declared.statements.JMember.{JMember, out-JMember}
use Rattle.java_unit_grammar.specs.declared.statements.JMember.TheVariants as member
use Rattle.java_unit_grammar.specs.declared.statements.JBody.TheOpen.{JMember-F}
use Rattle.java_unit_grammar.specs.Tokens.{joined, whole_member_tokens, package_part}
use Rattle.java_unit_grammar.specs.Standing.{NodeStands, steps, file_stands, TopStands}
use Rattle.java_unit_grammar.specs.Reading as r
use Rattle.java_unit_grammar.proofs.LawsToCite.{parts_are_read}
use Rattle.java_fault_grammar.specs.Walk.{Spot, State, start, Form, is_empty, takes, Stands, Lead, IsSpelled}
use Rattle.java_fault_grammar.specs.Assembled.{Assembled}
use Rattle.java_fault_grammar.proofs.Widening.{Layer, InFile, files_in}
use Rattle.java_fault_grammar.proofs.Bodies.{Body, body_read, reads, type_text, type_file}

abbrev pub at_spot : Spot → State
at_spot spot = record { spot = spot; around = [] }

-- ---- types

pub record Types (ts : Tokens) : Type 0 where
  pub types : List JMember
  pub all : AllByRecursion InFile types
  pub same : ts ≡ joined (map whole_member_tokens types)

no_types : (ts : Tokens) → ts ≡ [] → Types ts
no_types ts e = record { types = []; all = tt; same = e }

with_one : (ts mid : Tokens) (x : JMember) → InFile x → ts ≡ whole_member_tokens x ++ mid → Types mid → Types ts
with_one ts mid x s e t = record { types = x ∷ t.types; all = (s, t.all); same = e ∙ ap (λ (l : Tokens). whole_member_tokens x ++ l) t.same }

empty_stands : (n : ℕ) (x : Layer) → is_empty x → file_stands (NodeStands steps) (TopStands n) x
empty_stands n (JMember-F.Declared head.Empty bodies end) s = s
empty_stands n (JMember-F.Declared (head.Field mods x) bodies end) s = absurd s
empty_stands n (JMember-F.Declared (head.Method mods params result name at formals throws) bodies end) s = absurd s
empty_stands n (JMember-F.Declared (head.Constructor mods name at formals throws) bodies end) s = absurd s
empty_stands n (JMember-F.Declared (head.Initializer static) bodies end) s = absurd s
empty_stands n (JMember-F.Bodied h left xs right) s = absurd s
empty_stands n (JMember-F.Type h left cs bodies xs right) s = absurd s

with_head : (ts mid : Tokens) (fs : List Form) (t : State) (x : JTypeHead) (left : Position) → type_fits home.File x ≡ true → TypeHeadStands max_depth x
    → ts ≡ (type_head_tokens x ++ Token.Sign m.OpenCurly left ∷ []) ++ mid → (b : Body x [] mid fs t) → Types b.behind → Types ts
with_head ts mid fs t x left fits heads same b more =
    with_one ts b.behind (member.Type x left b.constants b.bodies b.members b.right)
    (type_file x left b.constants b.bodies b.members b.right b.stand b.follows b.all heads fits)
    (type_text x left b.constants b.bodies b.members b.right ts mid b.behind same b.same) more

types_read : (k : ℕ) (fs : List Form) (ts : Tokens) (t : State) → length fs ≤ k → t.around ≡ [] → Lead (at_spot Spot.Top) ts fs t [] → Types ts
types_read k [] ts t le none l = no_types ts l.1
types_read zero (f ∷ fs) ts t le none l = absurd (omega (arith, le))
types_read (suc k) (Form.Package x ∷ fs) ts t le none l = absurd l.1.taken
types_read (suc k) (Form.Import x ∷ fs) ts t le none l = absurd l.1.taken
types_read (suc k) (Form.Constants x bodies ∷ fs) ts t le none l = absurd l.1.taken
types_read (suc k) (Form.Ends at ∷ fs) ts t le none l = absurd l.1.taken
types_read (suc k) (Form.Member x ∷ fs) ts t le none l =
    with_one ts l.0 x (empty_stands (length (whole_member_tokens x)) (out-JMember x) l.1.taken) l.1.same (types_read k fs l.0 t (omega (arith, le)) none l.2)
types_read (suc k) (Form.Head x left ∷ fs) ts t le none l =
    let b = body_read x fs [] l.0 t k (reads k) (omega (arith, le)) none l.2 in
    let s = b.shorter in
    with_head ts l.0 fs t x left l.1.taken.0 l.1.taken.1 l.1.same b (types_read k b.less b.behind t (omega (arith, le, s)) none b.leads)

-- ---- imports before types

pub record Lines (ts : Tokens) : Type 0 where
  pub imports : List JImport
  pub types : List JMember
  pub all : AllByRecursion InFile types
  pub same : ts ≡ joined (map import_tokens imports) ++ joined (map whole_member_tokens types)

no_lines : (ts : Tokens) → Types ts → Lines ts
no_lines ts t = record { imports = []; types = t.types; all = t.all; same = t.same }

with_import : (ts mid : Tokens) (x : JImport) → ts ≡ import_tokens x ++ mid → Lines mid → Lines ts
with_import ts mid x e l = record {
  imports = x ∷ l.imports;
  types = l.types;
  all = l.all;
  same =
      e ∙ (ap (λ (l : Tokens). import_tokens x ++ l) l.same
      ∙ sym (append_assoc (import_tokens x) (joined (map import_tokens l.imports)) (joined (map whole_member_tokens l.types))));
}

moved : (s u : State) (f : Form) (ts rest : Tokens) → takes u f → Stands s f ts rest → Stands u f ts rest
moved s u f ts rest taken st = record { taken = taken; whole = st.whole; same = st.same }

lines_read : (fs : List Form) (ts : Tokens) (t : State) → t.around ≡ [] → Lead (at_spot Spot.Lines) ts fs t [] → Lines ts
lines_read [] ts t none l = no_lines ts (no_types ts l.1)
lines_read (Form.Package x ∷ fs) ts t none l = absurd l.1.taken
lines_read (Form.Constants x bodies ∷ fs) ts t none l = absurd l.1.taken
lines_read (Form.Ends at ∷ fs) ts t none l = absurd l.1.taken
lines_read (Form.Import x ∷ fs) ts t none l = with_import ts l.0 x l.1.same (lines_read fs l.0 t none l.2)
lines_read (Form.Member x ∷ fs) ts t none l =
    no_lines ts (types_read (suc (length fs)) (Form.Member x ∷ fs) ts t (omega arith) none (l.0, moved (at_spot Spot.Lines) (at_spot Spot.Top) (Form.Member x) ts l.0 l.1.taken l.1, l.2))
lines_read (Form.Head x left ∷ fs) ts t none l =
    no_lines ts (types_read (suc (length fs)) (Form.Head x left ∷ fs) ts t (omega arith) none (l.0, moved (at_spot Spot.Lines) (at_spot Spot.Top) (Form.Head x left) ts l.0 l.1.taken l.1, l.2))

-- ---- files

made : (within : Option JPackage) (ts mid : Tokens) → ts ≡ package_part within ++ mid → Lines mid → Assembled ts
made within ts mid e l =
    let I : Tokens = joined (map import_tokens l.imports) in
    let T : Tokens = joined (map whole_member_tokens l.types) in
    let same : ts ≡ package_part within ++ (I ++ T) = e ∙ ap (λ (l : Tokens). package_part within ++ l) l.same in
    let long : length ts ≡ length (package_part within ++ (I ++ T)) = ap length same in
    record {
      within = within;
      imports = l.imports;
      types = l.types;
      stand = files_in l.types (length ts) l.all (omega (arith, long, length-append (package_part within) (I ++ T), length-append I T));
      same = sym same;
    }

file_read : (fs : List Form) (ts : Tokens) (t : State) → t.around ≡ [] → Lead start ts fs t [] → Assembled ts
file_read [] ts t none l = made None ts ts refl (no_lines ts (no_types ts l.1))
file_read (Form.Package x ∷ fs) ts t none l = made (Some x) ts l.0 l.1.same (lines_read fs l.0 t none l.2)
file_read (Form.Import x ∷ fs) ts t none l =
    made None ts ts refl (lines_read (Form.Import x ∷ fs) ts t none (l.0, moved start (at_spot Spot.Lines) (Form.Import x) ts l.0 l.1.taken l.1, l.2))
file_read (Form.Head x left ∷ fs) ts t none l =
    made None ts ts refl (lines_read (Form.Head x left ∷ fs) ts t none (l.0, moved start (at_spot Spot.Lines) (Form.Head x left) ts l.0 l.1.taken l.1, l.2))
file_read (Form.Member x ∷ fs) ts t none l =
    made None ts ts refl (lines_read (Form.Member x ∷ fs) ts t none (l.0, moved start (at_spot Spot.Lines) (Form.Member x) ts l.0 l.1.taken l.1, l.2))
file_read (Form.Constants x bodies ∷ fs) ts t none l = absurd l.1.taken
file_read (Form.Ends at ∷ fs) ts t none l = absurd l.1.taken

-- What is spelled run by run is what a file declares,
pub spelled_assembled : (ts : Tokens) → IsSpelled ts → Assembled ts
spelled_assembled ts s = file_read s.forms ts s.state s.ended s.leads

-- and is read.
pub assembled_read : (ts : Tokens) → Assembled ts → (d : r.Declared) × (r.unit_read (length ts) ts ≡ Some d)
assembled_read ts a =
    (record { within = a.within; imports = a.imports; types = a.types }, ap (r.unit_read (length ts)) (sym a.same) ∙ parts_are_read (length ts) a.within a.imports a.types a.stand)

pub spelled_read : (ts : Tokens) → IsSpelled ts → (d : r.Declared) × (r.unit_read (length ts) ts ≡ Some d)
spelled_read ts s = assembled_read ts (spelled_assembled ts s)
