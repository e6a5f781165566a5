-- The runs of a type's body are its constants and members.
use Rattle.std.proofs.Common.{◌≡◌, ◌≤◌, ◌<◌, ℕ, zero, suc, true, List, [], ◌∷◌, ◌++◌, length, map, Option, Some, None, refl, ap, sym, ◌∙◌, subst, append_assoc, arith}
use Rattle.std.proofs.lemmas.List.{length-append}
use Rattle.std.specs.List.{AllByRecursion}
use Rattle.java_tree.specs.declared.tokens.Position.{Position}
use Rattle.java_tree.specs.declared.tokens.Mark.TheVariants as m
use Rattle.java_tree.specs.Seen.{Token, Tokens}
use Rattle.java_tree.specs.Trees.{max_depth}
use Rattle.java_member_grammar.specs.declared.homes.JHome.TheVariants as home
use Rattle.java_member_grammar.specs.declared.heads.JTypeHead.{JTypeHead}
use Rattle.java_member_grammar.specs.declared.heads.JTypeHead.TheVariants as kind
use Rattle.java_member_grammar.specs.declared.lines.JConstants.{JConstants}
use Rattle.java_member_grammar.specs.Heads.{type_head_tokens, constants_tokens, TypeHeadStands, ConstantsStand}
use Rattle.java_member_grammar.specs.Modifiers.{type_fits}
use Rattle.java_unit_grammar.specs.declared.statements.JBody.{JBody}
use Rattle.java_unit_grammar.specs.declared.statements.JMember.{JMember, out-JMember}
use Rattle.java_unit_grammar.specs.declared.statements.JMember.TheVariants as member
use Rattle.java_unit_grammar.specs.declared.statements.JBody.TheOpen.{JMember-F}
use Rattle.java_unit_grammar.specs.Levels.{constants_levels}
use Rattle.java_unit_grammar.specs.Tokens.{joined, filled, constants_by, body_tokens, whole_member_tokens}
use Rattle.java_unit_grammar.specs.Standing.{Owner, owner_of, home_of, NodeStands, steps, constants_stand, follow_end, follow, HeadStands, top_stands, file_stands, TopStands}
use Rattle.java_unit_grammar.proofs.LawsToCite.{tokens_Type, out_member, nested_tops}
use Rattle.java_fault_grammar.specs.Runs as runs
use Rattle.java_fault_grammar.specs.Walk.{Spot, State, Form, own_stands, inner_spot, outer, Lead}
use Rattle.java_fault_grammar.proofs.Widening.{Layer, Top, InFile, tops_in, tops_wider}
use Rattle.java_fault_grammar.proofs.Endings.{at_level, level_empty, constants_level}

-- ---- members that are no types

own_top : (Q : Owner → JMember → Type 0) (owner : Owner) (x : Layer) → own_stands owner x → top_stands (NodeStands steps) Q owner x
own_top Q owner (JMember-F.Declared h bodies end) s = s
own_top Q owner (JMember-F.Bodied h left xs right) s = s
own_top Q owner (JMember-F.Type h left cs bodies xs right) s = absurd s

own_stands_one : (owner : Owner) (x : JMember) → own_stands owner (out-JMember x) → TopStands 1 owner x
unfolding TopStands
own_stands_one owner x s = own_top (TopStands 0) owner (out-JMember x) s

pub full : (n : ℕ) (owner : Owner) (x : JMember) → TopStands n owner x → 1 ≤ length (whole_member_tokens x)
full n owner x s = ((nested_tops n).begins owner x s).full

own_is_top : (owner : Owner) (x : JMember) → own_stands owner (out-JMember x) → Top owner x
own_is_top owner x s = let t = own_stands_one owner x s in tops_wider 1 (length (whole_member_tokens x)) owner x (full 1 owner x t) t

-- ---- from inside a type to behind its `}`

-- The forms give members, a `}`, and fewer forms behind it.
pub record Inside (owner : Owner) (around : List Owner) (ts : Tokens) (fs : List Form) (t : State) : Type 0 where
  pub members : List JMember
  pub all : AllByRecursion (Top owner) members
  pub right : Position
  pub behind : Tokens
  pub same : ts ≡ joined (map whole_member_tokens members) ++ Token.Sign m.CloseCurly right ∷ behind
  pub less : List Form
  pub shorter : length less < length fs
  pub leads : Lead (outer (owner ∷ around)) behind less t []

abbrev pub in_type : Owner → List Owner → State
in_type owner around = record { spot = Spot.Member; around = owner ∷ around }

-- for lists of at most so many forms
abbrev pub Reads : ℕ → Type 0
Reads k = (fs : List Form) (owner : Owner) (around : List Owner) (ts : Tokens) (t : State) → length fs ≤ k → t.around ≡ [] → Lead (in_type owner around) ts fs t [] → Inside owner around ts fs t

-- The same with the constants of an enum.
pub record Body (h : JTypeHead) (around : List Owner) (ts : Tokens) (fs : List Form) (t : State) : Type 0 where
  pub constants : Option JConstants
  pub bodies : List JBody
  pub members : List JMember
  pub stand : constants_stand (NodeStands steps) h constants bodies
  pub follows : follow constants members
  pub all : AllByRecursion (Top (owner_of h)) members
  pub right : Position
  pub behind : Tokens
  pub same : ts ≡ constants_by constants (map body_tokens bodies) ++ (joined (map whole_member_tokens members) ++ Token.Sign m.CloseCurly right ∷ behind)
  pub less : List Form
  pub shorter : length less < length fs
  pub leads : Lead (outer (owner_of h ∷ around)) behind less t []

open_end : (s t : State) (x : Owner) (xs : List Owner) → s ≡ t → s.around ≡ x ∷ xs → t.around ≡ [] → ⊥
open_end s t x xs e g h = let same : s.around ≡ t.around = ap (λ (z : State). z.around) e in cc (same, g, h)

abbrev ends_here : (owner : Owner) (around : List Owner) (at : Position) (ts mid : Tokens) (fs : List Form) (t : State) → ts ≡ Token.Sign m.CloseCurly at ∷ mid
    → Lead (outer (owner ∷ around)) mid fs t [] → (f : Form) → Inside owner around ts (f ∷ fs) t
ends_here owner around at ts mid fs t same leads f = record {
  members = [];
  all = tt;
  right = at;
  behind = mid;
  same = same;
  less = fs;
  shorter = omega arith;
  leads = leads;
}

-- Where a level ends the body ends.
ended : (fs : List Form) (owner : Owner) (around : List Owner) (ts : Tokens) (t : State) → at_level ts ≡ true → t.around ≡ [] → Lead (in_type owner around) ts fs t []
    → (i : Inside owner around ts fs t) × (i.members ≡ [])
ended [] owner around ts t level none l = absurd (open_end (in_type owner around) t owner around l.0 refl none)
ended (Form.Package x ∷ fs) owner around ts t level none l = absurd l.1.taken
ended (Form.Import x ∷ fs) owner around ts t level none l = absurd l.1.taken
ended (Form.Head x left ∷ fs) owner around ts t level none l =
    let empty : type_head_tokens x ++ Token.Sign m.OpenCurly left ∷ [] ≡ [] = sym l.1.whole ∙ level_empty ts level in
    let long = length-append (type_head_tokens x) (Token.Sign m.OpenCurly left ∷ []) in
    let short : length (type_head_tokens x ++ Token.Sign m.OpenCurly left ∷ []) ≡ 0 = ap length empty in
    absurd (omega (arith, long, short))
ended (Form.Member x ∷ fs) owner around ts t level none l =
    let empty : whole_member_tokens x ≡ [] = sym l.1.whole ∙ level_empty ts level in
    let long = full 1 owner x (own_stands_one owner x l.1.taken) in
    let short : length (whole_member_tokens x) ≡ 0 = ap length empty in
    absurd (omega (arith, long, short))
ended (Form.Constants x bodies ∷ fs) owner around ts t level none l = absurd l.1.taken
ended (Form.Ends at ∷ fs) owner around ts t level none l = (ends_here owner around at ts l.0 fs t l.1.same l.2 (Form.Ends at), refl)

plain_body : (h : JTypeHead) (around : List Owner) (ts : Tokens) (fs : List Form) (t : State) → constants_stand (NodeStands steps) h None [] → Inside (owner_of h) around ts fs t → Body h around ts fs t
plain_body h around ts fs t stand i = record {
  constants = None;
  bodies = [];
  members = i.members;
  stand = stand;
  follows = tt;
  all = i.all;
  right = i.right;
  behind = i.behind;
  same = i.same;
  less = i.less;
  shorter = i.shorter;
  leads = i.leads;
}

enum_body : (h : JTypeHead) (around : List Owner) (ts mid : Tokens) (f : Form) (fs : List Form) (t : State) (x : JConstants) (bodies : List JBody)
    → constants_stand (NodeStands steps) h (Some x) bodies → ts ≡ filled (constants_tokens x) (map body_tokens bodies) ++ mid
    → (i : Inside (owner_of h) around mid fs t) → follow_end x.end i.members → Body h around ts (f ∷ fs) t
enum_body h around ts mid f fs t x bodies stand same i follows = record {
  constants = Some x;
  bodies = bodies;
  members = i.members;
  stand = stand;
  follows = follows;
  all = i.all;
  right = i.right;
  behind = i.behind;
  same = same ∙ ap (λ (l : Tokens). filled (constants_tokens x) (map body_tokens bodies) ++ l) i.same;
  less = i.less;
  shorter = let s = i.shorter in omega (arith, s);
  leads = i.leads;
}

behind_constants : (owner : Owner) (around : List Owner) (ts mid : Tokens) (fs : List Form) (t : State) (x : JConstants) (bodies : List JBody) (k : ℕ) → Reads k → length fs ≤ k → t.around ≡ []
    → (runs.run ts).text ≡ filled (constants_tokens x) (map body_tokens bodies) → ts ≡ filled (constants_tokens x) (map body_tokens bodies) ++ mid → Lead (in_type owner around) mid fs t []
    → (e : Option Position) → x.end ≡ e → (i : Inside owner around mid fs t) × follow_end e i.members
behind_constants owner around ts mid fs t x bodies k reads le none whole same l (Some at) h = (reads fs owner around mid t le none l, tt)
behind_constants owner around ts mid fs t x bodies k reads le none whole same l None h =
    ended fs owner around mid t (constants_level x (map body_tokens bodies) ts mid h whole same) none l

enum_read : (h : JTypeHead) → ((x : JConstants) (bodies : List JBody) → ConstantsStand max_depth x × HeadStands (NodeStands steps) 199 (constants_tokens x) (constants_levels x) bodies → constants_stand (NodeStands steps) h (Some x) bodies)
    → (fs : List Form) (around : List Owner) (ts : Tokens) (t : State) (k : ℕ) → Reads k → length fs ≤ k → t.around ≡ [] → Lead (record { spot = Spot.Constants; around = owner_of h ∷ around }) ts fs t [] → Body h around ts fs t
enum_read h stand [] around ts t k reads le none l = absurd (open_end (record { spot = Spot.Constants; around = owner_of h ∷ around }) t (owner_of h) around l.0 refl none)
enum_read h stand (Form.Package x ∷ fs) around ts t k reads le none l = absurd l.1.taken
enum_read h stand (Form.Import x ∷ fs) around ts t k reads le none l = absurd l.1.taken
enum_read h stand (Form.Head x left ∷ fs) around ts t k reads le none l = absurd l.1.taken
enum_read h stand (Form.Member x ∷ fs) around ts t k reads le none l = absurd l.1.taken
enum_read h stand (Form.Ends at ∷ fs) around ts t k reads le none l = absurd l.1.taken
enum_read h stand (Form.Constants x bodies ∷ fs) around ts t k reads le none l =
    let b = behind_constants (owner_of h) around ts l.0 fs t x bodies k reads (omega (arith, le)) none l.1.whole l.1.same l.2 x.end refl in
    enum_body h around ts l.0 (Form.Constants x bodies) fs t x bodies (stand x bodies l.1.taken) l.1.same b.0 b.1

pub body_read : (h : JTypeHead) (fs : List Form) (around : List Owner) (ts : Tokens) (t : State) (k : ℕ) → Reads k → length fs ≤ k → t.around ≡ []
    → Lead (record { spot = inner_spot h; around = owner_of h ∷ around }) ts fs t [] → Body h around ts fs t
body_read (kind.Class mods at n nat params above faces) fs around ts t k reads le none l =
    plain_body (kind.Class mods at n nat params above faces) around ts fs t refl (reads fs (owner_of (kind.Class mods at n nat params above faces)) around ts t le none l)
body_read (kind.Interface mods at n nat params above) fs around ts t k reads le none l =
    plain_body (kind.Interface mods at n nat params above) around ts fs t refl (reads fs (owner_of (kind.Interface mods at n nat params above)) around ts t le none l)
body_read (kind.Enum mods at n nat faces) fs around ts t k reads le none l =
    enum_read (kind.Enum mods at n nat faces) (λ x bodies s. s) fs around ts t k reads le none l

-- ---- a type of its head and its body

module _ (x : JTypeHead) (left : Position) (cs : Option JConstants) (bodies : List JBody) (xs : List JMember) (right : Position) where
  abbrev pub made : JMember
  made = member.Type x left cs bodies xs right

  pub type_text : (ts mid behind : Tokens) → ts ≡ (type_head_tokens x ++ Token.Sign m.OpenCurly left ∷ []) ++ mid
      → mid ≡ constants_by cs (map body_tokens bodies) ++ (joined (map whole_member_tokens xs) ++ Token.Sign m.CloseCurly right ∷ behind) → ts ≡ whole_member_tokens made ++ behind
  type_text ts mid behind e g =
      let H : Tokens = type_head_tokens x in
      let C : Tokens = constants_by cs (map body_tokens bodies) in
      let J : Tokens = joined (map whole_member_tokens xs) in
      let close : Tokens = Token.Sign m.CloseCurly right ∷ [] in
      let inner : (C ++ (J ++ close)) ++ behind ≡ mid = append_assoc C (J ++ close) behind ∙ (ap (λ (l : Tokens). C ++ l) (append_assoc J close behind) ∙ sym g) in
      let whole : whole_member_tokens made ++ behind ≡ H ++ Token.Sign m.OpenCurly left ∷ mid =
      ap (λ (l : Tokens). l ++ behind) (tokens_Type x left cs bodies xs right)
      ∙ (append_assoc H (Token.Sign m.OpenCurly left ∷ (C ++ (J ++ close))) behind ∙ ap (λ (l : Tokens). H ++ Token.Sign m.OpenCurly left ∷ l) inner) in
      e ∙ (append_assoc H (Token.Sign m.OpenCurly left ∷ []) mid ∙ sym whole)

  pub members_less : length (joined (map whole_member_tokens xs)) < length (whole_member_tokens made)
  members_less =
      let H : Tokens = type_head_tokens x in
      let C : Tokens = constants_by cs (map body_tokens bodies) in
      let J : Tokens = joined (map whole_member_tokens xs) in
      let close : Tokens = Token.Sign m.CloseCurly right ∷ [] in
      let e : length (whole_member_tokens made) ≡ length (H ++ Token.Sign m.OpenCurly left ∷ (C ++ (J ++ close))) = ap length (tokens_Type x left cs bodies xs right) in
      omega (arith, e, length-append H (Token.Sign m.OpenCurly left ∷ (C ++ (J ++ close))), length-append C (J ++ close), length-append J close)

  module _ (stand : constants_stand (NodeStands steps) x cs bodies) (follows : follow cs xs) (all : AllByRecursion (Top (owner_of x)) xs) (heads : TypeHeadStands max_depth x) where
    type_top_by : (owner : Owner) (n : ℕ) → type_fits (home_of owner) x ≡ true → length (joined (map whole_member_tokens xs)) < n → TopStands n owner made
    unfolding TopStands
    type_top_by owner zero fits lt = absurd (omega (arith, lt))
    type_top_by owner (suc n) fits lt =
        subst (top_stands (NodeStands steps) (TopStands n) owner) (sym (out_member (JMember-F.Type x left cs bodies xs right) made (member.rolls-Type x left cs bodies xs right)))
        (fits, heads, stand, follows, tops_in (owner_of x) xs n all (omega (arith, lt)))

    pub type_top : (owner : Owner) → type_fits (home_of owner) x ≡ true → Top owner made
    type_top owner fits = type_top_by owner (length (whole_member_tokens made)) fits members_less

    pub type_file : type_fits home.File x ≡ true → InFile made
    type_file fits =
        let n : ℕ = length (whole_member_tokens made) in
        subst (file_stands (NodeStands steps) (TopStands n)) (sym (out_member (JMember-F.Type x left cs bodies xs right) made (member.rolls-Type x left cs bodies xs right)))
        (fits, heads, stand, follows, tops_in (owner_of x) xs n all (let lt = members_less in omega (arith, lt)))

-- ---- the forms of a body one by one

with_member : (owner : Owner) (around : List Owner) (ts mid : Tokens) (fs gs : List Form) (t : State) (x : JMember) → Top owner x → ts ≡ whole_member_tokens x ++ mid → length gs < length fs
    → Inside owner around mid gs t → Inside owner around ts fs t
with_member owner around ts mid fs gs t x top same less i = record {
  members = x ∷ i.members;
  all = (top, i.all);
  right = i.right;
  behind = i.behind;
  same =
      same ∙ (ap (λ (l : Tokens). whole_member_tokens x ++ l) i.same
      ∙ sym (append_assoc (whole_member_tokens x) (joined (map whole_member_tokens i.members)) (Token.Sign m.CloseCurly i.right ∷ i.behind)));
  less = i.less;
  shorter = let s = i.shorter in omega (arith, s, less);
  leads = i.leads;
}

with_type : (owner : Owner) (around : List Owner) (ts mid : Tokens) (fs gs : List Form) (t : State) (x : JTypeHead) (left : Position) → type_fits (home_of owner) x ≡ true → TypeHeadStands max_depth x
    → ts ≡ (type_head_tokens x ++ Token.Sign m.OpenCurly left ∷ []) ++ mid → length gs < length fs → (b : Body x (owner ∷ around) mid gs t) → Inside owner around b.behind b.less t → Inside owner around ts fs t
with_type owner around ts mid fs gs t x left fits heads same less b i =
    let y : JMember = member.Type x left b.constants b.bodies b.members b.right in
    let s = b.shorter in
    with_member owner around ts b.behind fs b.less t y (type_top x left b.constants b.bodies b.members b.right b.stand b.follows b.all heads owner fits)
    (type_text x left b.constants b.bodies b.members b.right ts mid b.behind same b.same) (omega (arith, s, less)) i

pub reads : (k : ℕ) → Reads k
reads k [] owner around ts t le none l = absurd (open_end (in_type owner around) t owner around l.0 refl none)
reads zero (f ∷ fs) owner around ts t le none l = absurd (omega (arith, le))
reads (suc k) (Form.Package x ∷ fs) owner around ts t le none l = absurd l.1.taken
reads (suc k) (Form.Import x ∷ fs) owner around ts t le none l = absurd l.1.taken
reads (suc k) (Form.Constants x bodies ∷ fs) owner around ts t le none l = absurd l.1.taken
reads (suc k) (Form.Ends at ∷ fs) owner around ts t le none l = ends_here owner around at ts l.0 fs t l.1.same l.2 (Form.Ends at)
reads (suc k) (Form.Member x ∷ fs) owner around ts t le none l =
    with_member owner around ts l.0 (Form.Member x ∷ fs) fs t x (own_is_top owner x l.1.taken) l.1.same (omega arith) (reads k fs owner around l.0 t (omega (arith, le)) none l.2)
reads (suc k) (Form.Head x left ∷ fs) owner around ts t le none l =
    let b = body_read x fs (owner ∷ around) l.0 t k (reads k) (omega (arith, le)) none l.2 in
    let s = b.shorter in
    with_type owner around ts l.0 (Form.Head x left ∷ fs) fs t x left l.1.taken.0 l.1.taken.1 l.1.same (omega arith) b
    (reads k b.less owner around b.behind t (omega (arith, le, s)) none b.leads)
