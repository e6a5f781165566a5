-- What stands is read again.
use Rattle.std.proofs.Common.{◌≡◌, ◌≤◌, ◌-◌, ℕ, zero, suc, Bool, true, false, not, List, [], ◌∷◌, ◌++◌, length, map, Option, Some, None, refl, ap, sym, ◌∙◌, subst, append_assoc, arith}
use Rattle.std.specs.List.{AllByRecursion}
use Rattle.std.proofs.lemmas.List.{append-nil, length-append}
use Rattle.java_tree.specs.declared.tokens.Position.{Position}
use Rattle.java_tree.specs.declared.tokens.Mark.TheVariants as m
use Rattle.java_tree.specs.declared.tokens.Keyword.{Keyword}
use Rattle.java_tree.specs.declared.tokens.Keyword.TheVariants as w
use Rattle.java_tree.specs.Seen.{Token, Tokens, pieces}
use Rattle.java_tree.specs.declared.exprs.JExpr.{JExpr}
use Rattle.java_tree.specs.Trees.{tokens, typed_tokens, any_level, TypedStands}
use Rattle.java_expr_grammar.specs.Reading.{Reader, whole, colon, read}
use Rattle.java_statement_grammar.specs.declared.statements.JSimple.{JSimple}
use Rattle.java_statement_grammar.specs.declared.statements.JForHead.{JForHead}
use Rattle.java_statement_grammar.specs.declared.statements.JSwitchLabel.{JSwitchLabel}
use Rattle.java_statement_grammar.specs.declared.statements.JSwitchLabel.TheVariants as label
use Rattle.java_statement_grammar.specs.declared.statements.JLock.{JLock}
use Rattle.java_statement_grammar.specs.Heads.{simple_tokens, for_tokens, lock_tokens, switch_tokens, SimpleStands, ForStands, LockStands, SwitchStands}
use Rattle.java_statement_grammar.specs.Reading.{simple_read, for_read, lock_read}
use Rattle.java_unit_grammar.specs.declared.statements.JBody.{JBody, out-JBody, roll-JBody}
use Rattle.java_unit_grammar.specs.declared.statements.JBody.TheVariants as body
use Rattle.java_unit_grammar.specs.declared.statements.JCase.{JCase, roll-JCase, out-JCase}
use Rattle.java_unit_grammar.specs.declared.statements.JCaseGroup.{JCaseGroup, roll-JCaseGroup, out-JCaseGroup}
use Rattle.java_unit_grammar.specs.declared.statements.JCatch.{JCatch, roll-JCatch, out-JCatch}
use Rattle.java_unit_grammar.specs.declared.statements.JMember.{JMember}
use Rattle.java_unit_grammar.specs.declared.statements.JStatement.{JStatement, roll-JStatement, out-JStatement}
use Rattle.java_unit_grammar.specs.declared.statements.JStatement.TheVariants as st
use Rattle.java_unit_grammar.specs.declared.statements.JBody.TheOpen.{JBody-F, JCase-F, JCaseGroup-F, JCatch-F, JStatement-F}
use Rattle.java_unit_grammar.specs.Tokens.{joined, filled, braced, headed, statement_tokens, body_tokens, whole_member_tokens}
use Rattle.java_unit_grammar.specs.Levels.{Levels, simple_levels, for_levels, lock_levels, switch_levels}
use Rattle.java_unit_grammar.specs.Cutting.{Stop}
use Rattle.java_unit_grammar.specs.Standing.{ends_open, Role, may_stand, Owner, is_block, is_block_by, spans, counts, Node, bodies_stand, HeadStands, all_stand, block_stands, case_stands, group_stands, full_before, catch_stands, condition_stands, statement_stands, body_stands, node_stands}
use Rattle.java_unit_grammar.specs.Reading as r
use Rattle.java_unit_grammar.proofs.Texts.{case_tokens, group_tokens, catch_tokens, tokens_Simple, tokens_Block, tokens_Labeled, tokens_If, tokens_IfElse, tokens_While, tokens_Do, tokens_For, tokens_Switch, tokens_Synchronized, tokens_Try, tokens_TryFinally, tokens_Statements, tokens_Members, tokens_Case, tokens_CaseGroup, tokens_Catch, out_body, open_Labeled, open_If, open_IfElse, open_While, open_For}
use Rattle.java_statement_grammar.proofs.LawsToCite.{read_again, simple_is_read, for_is_read, lock_is_read, switch_is_read}
use Rattle.java_expr_grammar.proofs.LawsToCite.{typed_again}
use Rattle.java_unit_grammar.specs.declared.statements.JCase.{roll-out-JCase}
use Rattle.java_unit_grammar.specs.declared.statements.JCaseGroup.{roll-out-JCaseGroup}
use Rattle.java_unit_grammar.specs.declared.statements.JCatch.{roll-out-JCatch}
use Rattle.java_unit_grammar.specs.declared.statements.JBody.{roll-out-JBody}
use Rattle.java_unit_grammar.specs.declared.statements.JStatement.{roll-out-JStatement}
use Rattle.java_unit_grammar.proofs.StatementSoundness.{begins_else}
use Rattle.java_unit_grammar.proofs.Cuts.{Ends, cut_kept, Tail, mark_tail, spans_end, counts_end, filled_end}
use Rattle.java_unit_grammar.proofs.Passing.{Passes, passed, plainly, none, expr_passes, simple_passes, lock_passes, for_passes}
use Rattle.java_unit_grammar.proofs.Starts.{leads, leads_word, Led, simple_leads, filled_leads, filled_simple, step_simple}

-- ---- lists

module _ (A : Type 0) (text : A → Tokens) (P : A → Type 0) (stop : Tokens → Bool) (item : Reader A) (Q : Tokens → Bool) where
  -- an item reads its tokens where Q holds of what follows, and Q holds where an item begins
  pub record Items : Type 0 where
    pub reads : (x : A) → P x → (rest : Tokens) → Q rest ≡ true → item (text x ++ rest) ≡ Some (x, rest)
    pub full : (x : A) → P x → 1 ≤ length (text x)
    pub runs : (x : A) → P x → (rest : Tokens) → stop (text x ++ rest) ≡ false
    pub follows : (x : A) → P x → (rest : Tokens) → Q (text x ++ rest) ≡ true

  module _ (i : Items) where
    next_follows : (xs : List A) (rest : Tokens) → AllByRecursion P xs → Q rest ≡ true → Q (joined (map text xs) ++ rest) ≡ true
    next_follows [] rest all h = h
    next_follows (x ∷ xs) rest all h = ap Q (append_assoc (text x) (joined (map text xs)) rest) ∙ i.follows x all.0 (joined (map text xs) ++ rest)

    many_again : (xs : List A) (rest : Tokens) → AllByRecursion P xs → stop rest ≡ true → Q rest ≡ true → (n : ℕ) → length xs ≤ n → r.many stop item n (joined (map text xs) ++ rest) ≡ Some (xs, rest)
    unfolding r.many
    many_again [] rest all s q zero l = rw s refl
    many_again [] rest all s q (suc n) l = rw s refl
    many_again (x ∷ xs) rest all s q zero l = absurd (omega (arith, l))
    many_again (x ∷ xs) rest all s q (suc n) l =
        let more : Tokens = joined (map text xs) ++ rest in
        let a = i.reads x all.0 more (next_follows xs rest all.1 q) in
        let b = many_again xs rest all.1 s q n (omega (arith, l)) in
        ap (r.many stop item (suc n)) (append_assoc (text x) (joined (map text xs)) rest) ∙ rw (i.runs x all.0 more, a, b) refl

    joined_longer : (xs : List A) → AllByRecursion P xs → length xs ≤ length (joined (map text xs))
    joined_longer [] all = omega arith
    joined_longer (x ∷ xs) all =
        let l = length-append (text x) (joined (map text xs)) in
        let f = i.full x all.0 in
        let g = joined_longer xs all.1 in
        omega (arith, l, f, g)

    pub until_again : (xs : List A) (rest : Tokens) → AllByRecursion P xs → stop rest ≡ true → Q rest ≡ true → r.until stop item (joined (map text xs) ++ rest) ≡ Some (xs, rest)
    until_again xs rest all s q =
        let l = length-append (joined (map text xs)) rest in
        let g = joined_longer xs all in
        many_again xs rest all s q (length (joined (map text xs) ++ rest)) (omega (arith, l, g))

pub braced_again : (A : Type 0) (text : A → Tokens) (list : Reader (List A)) (left : Position) (xs : List A) (right : Position) (rest : Tokens)
    → list (joined (map text xs) ++ Token.Sign m.CloseCurly right ∷ rest) ≡ Some (xs, Token.Sign m.CloseCurly right ∷ rest)
    → r.braced list (braced left (map text xs) right ++ rest) ≡ Some (record { opens = left; items = xs; closes = right }, rest)
unfolding r.braced
braced_again A text list left xs right rest h =
    ap (λ (l : Tokens). r.braced list (Token.Sign m.OpenCurly left ∷ l)) (append_assoc (joined (map text xs)) (Token.Sign m.CloseCurly right ∷ []) rest) ∙ rw h refl

-- ---- what follows a statement

abbrev pub handles : Tokens → Bool
handles (Token.Word w.Catch at ∷ rest) = true
handles (Token.Word w.Finally at ∷ rest) = true
handles _ = false

-- No `catch` or `finally` follows, and no `else` where an `if` is open.
pub record Follows (x : JStatement) (rest : Tokens) : Type 0 where
  pub handles : handles rest ≡ false
  pub shut : ends_open x ≡ true → begins_else rest ≡ false

-- none of the three
abbrev pub goes_on : Tokens → Bool
goes_on (Token.Word w.Else at ∷ rest) = false
goes_on (Token.Word w.Catch at ∷ rest) = false
goes_on (Token.Word w.Finally at ∷ rest) = false
goes_on _ = true

on_handles : (ts : Tokens) → goes_on ts ≡ true → handles ts ≡ false
on_handles (Token.Word w.Catch at ∷ rest) h = absurd (cc h)
on_handles (Token.Word w.Finally at ∷ rest) h = absurd (cc h)
on_handles _ h = refl

on_else : (ts : Tokens) → goes_on ts ≡ true → begins_else ts ≡ false
on_else (Token.Word w.Else at ∷ rest) h = absurd (cc h)
on_else _ h = refl

pub on_follows : (x : JStatement) (ts : Tokens) → goes_on ts ≡ true → Follows x ts
on_follows x ts h = record { handles = on_handles ts h; shut = λ g. on_else ts h }

-- ---- what a statement begins with

abbrev pub fresh_word : Keyword → Bool
fresh_word w.Else = false
fresh_word w.Case = false
fresh_word w.Default = false
fresh_word w.Catch = false
fresh_word w.Finally = false
fresh_word _ = true

abbrev pub fresh : Token → Bool
fresh (Token.Sign m.CloseCurly at) = false
fresh (Token.Sign mark at) = true
fresh (Token.Word word at) = fresh_word word
fresh _ = true

pub record Fresh (ts : Tokens) : Type 0 where
  pub head : Token
  pub tail : Tokens
  pub is : ts ≡ head ∷ tail
  pub fresh : fresh head ≡ true

leads_word_fresh : (word : Keyword) → leads_word word ≡ true → fresh_word word ≡ true
leads_word_fresh w.Else h = absurd (cc h)
leads_word_fresh w.Case h = absurd (cc h)
leads_word_fresh w.Default h = absurd (cc h)
leads_word_fresh w.Catch h = absurd (cc h)
leads_word_fresh w.Finally h = absurd (cc h)
leads_word_fresh _ h = refl

leads_fresh : (x : Token) → leads x ≡ true → fresh x ≡ true
leads_fresh (Token.Sign m.CloseCurly at) h = absurd (cc h)
leads_fresh (Token.Sign _ at) h = refl
leads_fresh (Token.Word word at) h = leads_word_fresh word h
leads_fresh (Token.Id n at) h = refl
leads_fresh (Token.Literal x at) h = refl
leads_fresh (Token.ArrowBody at span) h = refl
leads_fresh (Token.CloseBody at span) h = refl

fresh_word_on : (word : Keyword) (at : Position) (ts : Tokens) → fresh_word word ≡ true → goes_on (Token.Word word at ∷ ts) ≡ true
fresh_word_on w.Else at ts h = absurd (cc h)
fresh_word_on w.Catch at ts h = absurd (cc h)
fresh_word_on w.Finally at ts h = absurd (cc h)
fresh_word_on _ at ts h = refl

fresh_word_group : (word : Keyword) (at : Position) (ts : Tokens) → fresh_word word ≡ true → r.ends_group (Token.Word word at ∷ ts) ≡ false
fresh_word_group w.Case at ts h = absurd (cc h)
fresh_word_group w.Default at ts h = absurd (cc h)
fresh_word_group _ at ts h = refl

at_on : (x : Token) (ts : Tokens) → fresh x ≡ true → goes_on (x ∷ ts) ≡ true
at_on (Token.Word word at) ts h = fresh_word_on word at ts h
at_on (Token.Sign mark at) ts h = refl
at_on (Token.Id n at) ts h = refl
at_on (Token.Literal x at) ts h = refl
at_on (Token.ArrowBody at span) ts h = refl
at_on (Token.CloseBody at span) ts h = refl

at_group : (x : Token) (ts : Tokens) → fresh x ≡ true → r.ends_group (x ∷ ts) ≡ false
at_group (Token.Word word at) ts h = fresh_word_group word at ts h
at_group (Token.Sign m.CloseCurly at) ts h = absurd (cc h)
at_group (Token.Sign _ at) ts h = refl
at_group (Token.Id n at) ts h = refl
at_group (Token.Literal x at) ts h = refl
at_group (Token.ArrowBody at span) ts h = refl
at_group (Token.CloseBody at span) ts h = refl

pub group_close : (ts : Tokens) → r.ends_group ts ≡ false → r.begins_close ts ≡ false
group_close (Token.Sign m.CloseCurly at ∷ ts) h = absurd (cc h)
group_close _ h = refl

pub group_case : (ts : Tokens) → r.ends_group ts ≡ false → r.begins_case ts ≡ false
group_case (Token.Word w.Case at ∷ ts) h = absurd (cc h)
group_case (Token.Word w.Default at ∷ ts) h = absurd (cc h)
group_case _ h = refl

pub fresh_on : (ts : Tokens) → Fresh ts → goes_on ts ≡ true
fresh_on ts f = ap goes_on f.is ∙ at_on f.head f.tail f.fresh

pub fresh_group : (ts : Tokens) → Fresh ts → r.ends_group ts ≡ false
fresh_group ts f = ap r.ends_group f.is ∙ at_group f.head f.tail f.fresh

pub fresh_end : (ts : Tokens) → Fresh ts → r.is_end ts ≡ false
fresh_end ts f = ap r.is_end f.is

pub fresh_full : (ts : Tokens) → Fresh (ts ++ []) → 1 ≤ length ts
fresh_full ts f = let l = ap length (sym (append-nil ts) ∙ f.is) in omega (arith, l)

close_on : (ts : Tokens) → r.begins_close ts ≡ true → goes_on ts ≡ true
close_on (Token.Sign m.CloseCurly at ∷ ts) h = refl
close_on _ h = absurd (cc h)

group_on : (ts : Tokens) → r.ends_group ts ≡ true → goes_on ts ≡ true
group_on (Token.Sign m.CloseCurly at ∷ ts) h = refl
group_on (Token.Word w.Case at ∷ ts) h = refl
group_on (Token.Word w.Default at ∷ ts) h = refl
group_on _ h = absurd (cc h)

-- ---- what stands is read again

pub record Member_begins (ts : Tokens) : Type 0 where
  pub full : 1 ≤ length ts
  pub runs : (rest : Tokens) → r.begins_close (ts ++ rest) ≡ false

pub record Agains (P : ℕ → Node → Type 0) (R : r.Readers) : Type 0 where
  pub body : (d : ℕ) (x : JBody) → P d (Node.Body x) → R.body d (is_block x) (body_tokens x) ≡ Some x
  pub label : (d : ℕ) (x : JCase) → P d (Node.Case x) → (rest : Tokens) → R.label d (case_tokens x ++ rest) ≡ Some (x, rest)
  pub label_begins : (d : ℕ) (x : JCase) → P d (Node.Case x) → (rest : Tokens) → r.begins_case (case_tokens x ++ rest) ≡ true
  pub statement : (d : ℕ) (place : Role) (x : JStatement) → P d (Node.Statement place x) → (rest : Tokens) → Follows x rest → R.statement d place (statement_tokens x ++ rest) ≡ Some (x, rest)
  pub fresh : (d : ℕ) (place : Role) (x : JStatement) → P d (Node.Statement place x) → (rest : Tokens) → Fresh (statement_tokens x ++ rest)
  pub member : (d : ℕ) (owner : Owner) (x : JMember) → P d (Node.Member owner x) → (rest : Tokens) → R.member d owner (whole_member_tokens x ++ rest) ≡ Some (x, rest)
  pub member_begins : (d : ℕ) (owner : Owner) (x : JMember) → P d (Node.Member owner x) → Member_begins (whole_member_tokens x)

module _ (P : ℕ → Node → Type 0) (R : r.Readers) (S : Agains P R) where
  -- ---- heads

  pub bodies_again : (d : ℕ) (ls : Levels) (ks : List Bool) (xs : List JBody) → map is_block xs ≡ ks → bodies_stand P d ls xs → r.bodies_by R.body d ls ks (map body_tokens xs) ≡ Some xs
  bodies_again d ls ks [] h s = refl
  bodies_again d [] ks (x ∷ xs) h s = absurd s
  bodies_again d (n ∷ ls) [] (x ∷ xs) h s = absurd (cc h)
  bodies_again d (n ∷ ls) (k ∷ ks) (x ∷ xs) h s =
      let e : is_block x ≡ k = cc h in
      let a = ap (λ k. R.body (suc (suc d) - n) k (body_tokens x)) (sym e) ∙ S.body (suc (suc d) - n) x s.0 in
      let b = bodies_again d ls ks xs (cc h) s.1 in
      rw (a, b) refl

  module _ (H : Type 0) (text : H → Tokens) (levels : H → Levels) (d : ℕ) where
    pub head_again : (stop : Stop) (of : Tokens → Option H) (x : H) (xs : List JBody) (rest : Tokens) → of (text x) ≡ Some x → Passes stop (text x) → Ends stop rest
        → HeadStands P d (text x) (levels x) xs → r.head_read R.body d stop of levels (filled (text x) (map body_tokens xs) ++ rest) ≡ Some (record { head = x; bodies = xs }, rest)
    unfolding r.head_read
    head_again stop of x xs rest law passes ends s =
        let bs : List Tokens = map body_tokens xs in
        let p : pieces (length (filled (text x) bs ++ [])) (filled (text x) bs ++ []) ≡ text x ++ [] =
        ap (λ (l : Tokens). pieces (length l) l) (append-nil (filled (text x) bs)) ∙ sym s.are.numbered ∙ sym (append-nil (text x)) in
        let c = cut_kept stop (text x) bs [] rest [] (passed stop (text x) passes) ends s.are.counted p in
        let b = bodies_again d (levels x) (spans (text x)) xs s.are.each s.stand in
        rw (c, law, b) refl

    pub rounded_again : (of : Tokens → Option H) (lp : Position) (x : H) (xs : List JBody) (rp : Position) (rest : Tokens) → of (text x) ≡ Some x → Passes Stop.Close (text x)
        → HeadStands P d (text x) (levels x) xs
        → r.rounded R.body d of levels (Token.Sign m.OpenRound lp ∷ (filled (text x) (map body_tokens xs) ++ Token.Sign m.CloseRound rp ∷ rest))
        ≡ Some (record { opens = lp; head = x; bodies = xs; closes = rp }, rest)
    unfolding r.rounded
    rounded_again of lp x xs rp rest law passes s =
        let ends : Ends Stop.Close (Token.Sign m.CloseRound rp ∷ rest) = record { head = Token.Sign m.CloseRound rp; tail = rest; is = refl; closes = refl } in
        rw (head_again Stop.Close of x xs (Token.Sign m.CloseRound rp ∷ rest) law passes ends s) refl

  -- ---- blocks

  pub inner_items : (d : ℕ) (stop : Tokens → Bool) → ((ts : Tokens) → Fresh ts → stop ts ≡ false) → Items JStatement statement_tokens (λ x. P d (Node.Statement Role.Inner x)) stop (R.statement d Role.Inner) goes_on
  inner_items d stop runs = record {
    reads = λ x s rest h. S.statement d Role.Inner x s rest (on_follows x rest h);
    full = λ x s. fresh_full (statement_tokens x) (S.fresh d Role.Inner x s []);
    runs = λ x s rest. runs (statement_tokens x ++ rest) (S.fresh d Role.Inner x s rest);
    follows = λ x s rest. fresh_on (statement_tokens x ++ rest) (S.fresh d Role.Inner x s rest);
  }

  pub inner_again : (d : ℕ) (xs : List JStatement) (rest : Tokens) → all_stand P d Role.Inner xs → r.begins_close rest ≡ true → r.inner_list R d (joined (map statement_tokens xs) ++ rest) ≡ Some (xs, rest)
  inner_again d xs rest all h =
      until_again JStatement statement_tokens (λ x. P d (Node.Statement Role.Inner x)) r.begins_close (R.statement d Role.Inner) goes_on
      (inner_items d r.begins_close (λ ts f. group_close ts (fresh_group ts f))) xs rest all h (close_on rest h)

  pub block_again : (d : ℕ) (left : Position) (xs : List JStatement) (right : Position) (rest : Tokens) → block_stands P d xs
      → r.block R d (braced left (map statement_tokens xs) right ++ rest) ≡ Some (record { opens = left; items = xs; closes = right }, rest)
  unfolding r.block
  block_again zero left xs right rest s = absurd s
  block_again (suc d) left xs right rest s = braced_again JStatement statement_tokens (r.inner_list R d) left xs right rest (inner_again d xs (Token.Sign m.CloseCurly right ∷ rest) s refl)

-- ---- statements

module _ (P : ℕ → Node → Type 0) (R : r.Readers) (S : Agains P R) (d : ℕ) where
  abbrev Layer : Type 0
  Layer = JStatement-F JBody JMember JStatement JCase JCaseGroup JCatch

  -- from what a constructor makes to the layer
  carried : (place : Role) (layer : Layer) (x : JStatement) (text rest : Tokens) → roll-JStatement layer ≡ x → statement_tokens x ≡ text
      → (Follows x rest → r.statement_step R d place (text ++ rest) ≡ Some (x, rest))
      → Follows (roll-JStatement layer) rest → r.statement_step R d place (statement_tokens (roll-JStatement layer) ++ rest) ≡ Some (roll-JStatement layer, rest)
  carried place layer x text rest rolls spelled reads =
      let G : JStatement → Type 0 = λ z. Follows z rest → r.statement_step R d place (statement_tokens z ++ rest) ≡ Some (z, rest) in
      subst G (sym rolls) (λ f. ap (λ (l : Tokens). r.statement_step R d place (l ++ rest)) spelled ∙ reads f)

  sole_again : (x : JStatement) (rest : Tokens) → P d (Node.Statement Role.Sole x) → Follows x rest → R.statement d Role.Sole (statement_tokens x ++ rest) ≡ Some (x, rest)
  sole_again x rest s f = S.statement d Role.Sole x s rest f

  condition_again : (lp : Position) (x : JExpr) (xs : List JBody) (rp : Position) (rest : Tokens) → condition_stands P d x xs
      → r.condition R d (Token.Sign m.OpenRound lp ∷ (filled (tokens x) (map body_tokens xs) ++ Token.Sign m.CloseRound rp ∷ rest)) ≡ Some (record { opens = lp; head = x; bodies = xs; closes = rp }, rest)
  condition_again lp x xs rp rest s =
      rounded_again P R S JExpr tokens r.condition_levels d (λ ts. whole (read d any_level ts)) lp x xs rp rest (read_again d x s.0) (expr_passes Stop.Close d x s.0) s.1

  simple_again : (place : Role) (x : JSimple) (xs : List JBody) (end : Position) (rest : Tokens) → may_stand place x ≡ true → SimpleStands d x → HeadStands P d (simple_tokens x) (simple_levels x) xs
      → r.statement_step R d place ((filled (simple_tokens x) (map body_tokens xs) ++ Token.Sign m.Semicolon end ∷ []) ++ rest) ≡ Some (st.Simple x xs end, rest)
  unfolding r.simple
  simple_again place x xs end rest may stands heads =
      let text : Tokens = filled (simple_tokens x) (map body_tokens xs) in
      let more : Tokens = Token.Sign m.Semicolon end ∷ rest in
      let ends : Ends Stop.Semicolon more = record { head = Token.Sign m.Semicolon end; tail = rest; is = refl; closes = refl } in
      let h = head_again P R S JSimple simple_tokens simple_levels d Stop.Semicolon (simple_read d) x xs more (simple_is_read d (simple_tokens x) x stands refl) (simple_passes Stop.Semicolon d x stands) ends heads in
      ap (r.statement_step R d place) (append_assoc text (Token.Sign m.Semicolon end ∷ []) rest)
      ∙ step_simple R d place (text ++ more)
      (filled_simple (simple_tokens x) (map body_tokens xs) end rest (simple_leads d x end rest stands) (passed Stop.Colon (simple_tokens x) (simple_passes Stop.Colon d x stands)))
      ∙ rw (h, may) refl

  block_statement_again : (left : Position) (xs : List JStatement) (right : Position) (rest : Tokens) → all_stand P d Role.Inner xs
      → r.block_statement R d (braced left (map statement_tokens xs) right ++ rest) ≡ Some (st.Block left xs right, rest)
  unfolding r.block_statement
  block_statement_again left xs right rest all =
      rw (braced_again JStatement statement_tokens (r.inner_list R d) left xs right rest (inner_again P R S d xs (Token.Sign m.CloseCurly right ∷ rest) all refl)) refl

  labeled_again : (n : List ℕ) (at colon : Position) (x : JStatement) (rest : Tokens) → P d (Node.Statement Role.Sole x) → Follows x rest
      → r.labeled R d n at colon (statement_tokens x ++ rest) ≡ Some (st.Labeled n at colon x, rest)
  unfolding r.labeled
  labeled_again n at colon x rest s f = rw (sole_again x rest s f) refl

  if_plain : (at : Position) (x : r.Rounded JExpr) (then_ : JStatement) (us : Tokens) → begins_else us ≡ false → r.if_end R d at x then_ us ≡ Some (st.If at x.opens x.head x.bodies x.closes then_, us)
  if_plain at x then_ (Token.Word w.Else else_at ∷ rest) h = absurd (cc h)
  if_plain at x then_ _ h = refl

  -- what stands behind the parentheses
  behind_round : (lp : Position) (text : Tokens) (rp : Position) (more rest : Tokens)
      → (Token.Sign m.OpenRound lp ∷ (text ++ Token.Sign m.CloseRound rp ∷ more)) ++ rest ≡ Token.Sign m.OpenRound lp ∷ (text ++ Token.Sign m.CloseRound rp ∷ (more ++ rest))
  behind_round lp text rp more rest = ap (λ (l : Tokens). Token.Sign m.OpenRound lp ∷ l) (append_assoc text (Token.Sign m.CloseRound rp ∷ more) rest)

  abbrev shown : JExpr → List JBody → Tokens
  shown x xs = filled (tokens x) (map body_tokens xs)

  if_again : (at lp : Position) (x : JExpr) (xs : List JBody) (rp : Position) (y : JStatement) (rest : Tokens) → condition_stands P d x xs → P d (Node.Statement Role.Sole y) → handles rest ≡ false
      → begins_else rest ≡ false → r.if_read R d at ((Token.Sign m.OpenRound lp ∷ (shown x xs ++ Token.Sign m.CloseRound rp ∷ statement_tokens y)) ++ rest) ≡ Some (st.If at lp x xs rp y, rest)
  unfolding r.if_read
  if_again at lp x xs rp y rest s t h e =
      ap (r.if_read R d at) (behind_round lp (shown x xs) rp (statement_tokens y) rest)
      ∙ rw (condition_again lp x xs rp (statement_tokens y ++ rest) s, sole_again y rest t (record { handles = h; shut = λ g. e })) (if_plain at (record { opens = lp; head = x; bodies = xs; closes = rp }) y rest e)

  if_else_again : (at lp : Position) (x : JExpr) (xs : List JBody) (rp : Position) (y : JStatement) (else_at : Position) (z : JStatement) (rest : Tokens) → condition_stands P d x xs
      → P d (Node.Statement Role.Sole y) → ends_open y ≡ false → P d (Node.Statement Role.Sole z) → Follows z rest
      → r.if_read R d at ((Token.Sign m.OpenRound lp ∷ (shown x xs ++ Token.Sign m.CloseRound rp ∷ (statement_tokens y ++ Token.Word w.Else else_at ∷ statement_tokens z))) ++ rest)
      ≡ Some (st.IfElse at lp x xs rp y else_at z, rest)
  unfolding r.if_read r.else_read
  if_else_again at lp x xs rp y else_at z rest s t closed u f =
      let tail : Tokens = Token.Word w.Else else_at ∷ (statement_tokens z ++ rest) in
      let then_follows : Follows y tail = record { handles = refl; shut = λ g. let e = sym closed ∙ g in absurd (cc e) } in
      ap (r.if_read R d at) (
      behind_round lp (shown x xs) rp (statement_tokens y ++ Token.Word w.Else else_at ∷ statement_tokens z) rest
      ∙ ap (λ (l : Tokens). Token.Sign m.OpenRound lp ∷ (shown x xs ++ Token.Sign m.CloseRound rp ∷ l)) (append_assoc (statement_tokens y) (Token.Word w.Else else_at ∷ statement_tokens z) rest)
      )
      ∙ rw (condition_again lp x xs rp (statement_tokens y ++ tail) s, sole_again y tail t then_follows, sole_again z rest u f) refl

  while_again : (at lp : Position) (x : JExpr) (xs : List JBody) (rp : Position) (y : JStatement) (rest : Tokens) → condition_stands P d x xs → P d (Node.Statement Role.Sole y) → Follows y rest
      → r.while_read R d at ((Token.Sign m.OpenRound lp ∷ (shown x xs ++ Token.Sign m.CloseRound rp ∷ statement_tokens y)) ++ rest) ≡ Some (st.While at lp x xs rp y, rest)
  unfolding r.while_read
  while_again at lp x xs rp y rest s t f =
      ap (r.while_read R d at) (behind_round lp (shown x xs) rp (statement_tokens y) rest) ∙ rw (condition_again lp x xs rp (statement_tokens y ++ rest) s, sole_again y rest t f) refl

  loop_again : (at lp : Position) (x : JForHead) (xs : List JBody) (rp : Position) (y : JStatement) (rest : Tokens) → ForStands d x → HeadStands P d (for_tokens x) (for_levels x) xs
      → P d (Node.Statement Role.Sole y) → Follows y rest
      → r.loop_read R d at ((Token.Sign m.OpenRound lp ∷ (filled (for_tokens x) (map body_tokens xs) ++ Token.Sign m.CloseRound rp ∷ statement_tokens y)) ++ rest) ≡ Some (st.For at lp x xs rp y, rest)
  unfolding r.loop_read
  loop_again at lp x xs rp y rest s h t f =
      let c = rounded_again P R S JForHead for_tokens for_levels d (for_read d) lp x xs rp (statement_tokens y ++ rest) (for_is_read d (for_tokens x) x s refl) (for_passes d x s) h in
      ap (r.loop_read R d at) (behind_round lp (filled (for_tokens x) (map body_tokens xs)) rp (statement_tokens y) rest) ∙ rw (c, sole_again y rest t f) refl

  do_again : (at : Position) (y : JStatement) (while_at lp : Position) (x : JExpr) (xs : List JBody) (rp end : Position) (rest : Tokens) → P d (Node.Statement Role.Sole y) → condition_stands P d x xs
      → r.do_read R d at ((statement_tokens y ++ headed (Token.Word w.While while_at) lp (shown x xs) rp (Token.Sign m.Semicolon end ∷ [])) ++ rest) ≡ Some (st.Do at y while_at lp x xs rp end, rest)
  unfolding r.do_read
  do_again at y while_at lp x xs rp end rest t s =
      let tail : Tokens = Token.Word w.While while_at ∷ Token.Sign m.OpenRound lp ∷ (shown x xs ++ Token.Sign m.CloseRound rp ∷ Token.Sign m.Semicolon end ∷ rest) in
      let f : Follows y tail = record { handles = refl; shut = λ g. refl } in
      ap (r.do_read R d at) (
      append_assoc (statement_tokens y) (headed (Token.Word w.While while_at) lp (shown x xs) rp (Token.Sign m.Semicolon end ∷ [])) rest
      ∙ ap (λ (l : Tokens). statement_tokens y ++ Token.Word w.While while_at ∷ l) (behind_round lp (shown x xs) rp (Token.Sign m.Semicolon end ∷ []) rest)
      )
      ∙ rw (sole_again y tail t f, condition_again lp x xs rp (Token.Sign m.Semicolon end ∷ rest) s) refl

  synchronized_again : (at lp : Position) (x : JLock) (xs : List JBody) (rp left : Position) (ys : List JStatement) (right : Position) (rest : Tokens) → LockStands d x
      → HeadStands P d (lock_tokens x) (lock_levels x) xs → block_stands P d ys
      → r.synchronized R d at ((Token.Sign m.OpenRound lp ∷ (filled (lock_tokens x) (map body_tokens xs) ++ Token.Sign m.CloseRound rp ∷ braced left (map statement_tokens ys) right)) ++ rest)
      ≡ Some (st.Synchronized at lp x xs rp left ys right, rest)
  unfolding r.synchronized
  synchronized_again at lp x xs rp left ys right rest s h t =
      let B : Tokens = braced left (map statement_tokens ys) right in
      let c = rounded_again P R S JLock lock_tokens lock_levels d (lock_read d) lp x xs rp (B ++ rest) (lock_is_read d (lock_tokens x) x s refl) (lock_passes Stop.Close d x s) h in
      ap (r.synchronized R d at) (behind_round lp (filled (lock_tokens x) (map body_tokens xs)) rp B rest) ∙ rw (c, block_again P R S d left ys right rest t) refl

  -- ---- switches

  label_items : Items JCase case_tokens (λ x. P d (Node.Case x)) r.no_case (R.label d) (λ ts. true)
  label_items = record {
    reads = λ x s rest h. S.label d x s rest;
    full = λ x s. longer (case_tokens x) (S.label_begins d x s []);
    runs = λ x s rest. ap not (S.label_begins d x s rest);
    follows = λ x s rest. refl;
  }
    where
      longer : (ts : Tokens) → r.begins_case (ts ++ []) ≡ true → 1 ≤ length ts
      longer [] h = absurd (cc h)
      longer (t ∷ ts) h = omega arith

  labels_begin : (xs : List JCase) (rest : Tokens) → 1 ≤ length xs → AllByRecursion (λ x. P d (Node.Case x)) xs → r.begins_case (joined (map case_tokens xs) ++ rest) ≡ true
  labels_begin [] rest full all = absurd (omega (arith, full))
  labels_begin (x ∷ xs) rest full all = ap r.begins_case (append_assoc (case_tokens x) (joined (map case_tokens xs)) rest) ∙ S.label_begins d x all.0 (joined (map case_tokens xs) ++ rest)

  -- no label begins behind labels
  no_label : (xs : List JStatement) (rest : Tokens) → all_stand P d Role.Inner xs → (length xs ≡ 0 → r.begins_case rest ≡ false) → r.no_case (joined (map statement_tokens xs) ++ rest) ≡ true
  no_label [] rest all alone = ap not (alone refl)
  no_label (x ∷ xs) rest all alone =
      let us : Tokens = joined (map statement_tokens xs) ++ rest in
      ap r.no_case (append_assoc (statement_tokens x) (joined (map statement_tokens xs)) rest)
      ∙ ap not (group_case (statement_tokens x ++ us) (fresh_group (statement_tokens x ++ us) (S.fresh d Role.Inner x all.0 us)))

  abbrev pub GroupStands : JCaseGroup → Type 0
  GroupStands x = group_stands P d (out-JCaseGroup x)

  abbrev GroupLayer : Type 0
  GroupLayer = JCaseGroup-F JBody JMember JStatement JCase JCaseGroup JCatch

  group_layer : (x : GroupLayer) (rest : Tokens) → group_stands P d x → r.ends_group rest ≡ true → (length x.statements ≡ 0 → r.begins_case rest ≡ false)
      → r.group_read R d (group_tokens (roll-JCaseGroup x) ++ rest) ≡ Some (roll-JCaseGroup x, rest)
  unfolding r.group_read
  group_layer x rest s ends alone =
      let L : Tokens = joined (map case_tokens x.labels) in
      let T : Tokens = joined (map statement_tokens x.statements) in
      let b = labels_begin x.labels (T ++ rest) s.0 s.1 in
      let a = until_again JCase case_tokens (λ x. P d (Node.Case x)) r.no_case (R.label d) (λ ts. true) label_items x.labels (T ++ rest) s.1 (no_label x.statements rest s.2 alone) refl in
      let c = until_again JStatement statement_tokens (λ x. P d (Node.Statement Role.Inner x)) r.ends_group (R.statement d Role.Inner) goes_on
      (inner_items P R S d r.ends_group fresh_group) x.statements rest s.2 ends (group_on rest ends) in
      ap (λ (l : Tokens). r.group_read R d (l ++ rest)) (tokens_CaseGroup x) ∙ ap (r.group_read R d) (append_assoc L T rest) ∙ rw (b, a, c) refl

  group_again : (x : JCaseGroup) (rest : Tokens) → GroupStands x → r.ends_group rest ≡ true → (length (out-JCaseGroup x).statements ≡ 0 → r.begins_case rest ≡ false)
      → r.group_read R d (group_tokens x ++ rest) ≡ Some (x, rest)
  group_again x rest s ends alone = subst (λ (z : JCaseGroup). r.group_read R d (group_tokens z ++ rest) ≡ Some (z, rest)) (roll-out-JCaseGroup x) (group_layer (out-JCaseGroup x) rest s ends alone)

  group_begins : (x : JCaseGroup) (rest : Tokens) → GroupStands x → r.begins_case (group_tokens x ++ rest) ≡ true
  group_begins x rest s =
      let y = out-JCaseGroup x in
      let T : Tokens = joined (map statement_tokens y.statements) in
      let G : JCaseGroup → Type 0 = λ z. r.begins_case (group_tokens z ++ rest) ≡ true in
      subst G (roll-out-JCaseGroup x) (
      ap (λ (l : Tokens). r.begins_case (l ++ rest)) (tokens_CaseGroup y) ∙ ap r.begins_case (append_assoc (joined (map case_tokens y.labels)) T rest) ∙ labels_begin y.labels (T ++ rest) s.0 s.1
      )

  case_group : (ts : Tokens) → r.begins_case ts ≡ true → r.ends_group ts ≡ true
  case_group (Token.Word w.Case at ∷ ts) h = refl
  case_group (Token.Word w.Default at ∷ ts) h = refl
  case_group _ h = absurd (cc h)

  case_close : (ts : Tokens) → r.begins_case ts ≡ true → r.begins_close ts ≡ false
  case_close (Token.Word w.Case at ∷ ts) h = refl
  case_close (Token.Word w.Default at ∷ ts) h = refl
  case_close _ h = absurd (cc h)

  -- the groups and the `}` behind them
  groups_again : (xs : List JCaseGroup) (right : Position) (rest : Tokens) → AllByRecursion GroupStands xs → full_before xs → (n : ℕ) → length xs ≤ n
      → r.many r.begins_close (r.group_read R d) n (joined (map group_tokens xs) ++ Token.Sign m.CloseCurly right ∷ rest) ≡ Some (xs, Token.Sign m.CloseCurly right ∷ rest)
  unfolding r.many
  groups_again [] right rest all full zero l = refl
  groups_again [] right rest all full (suc n) l = refl
  groups_again (x ∷ xs) right rest all full zero l = absurd (omega (arith, l))
  groups_again (x ∷ []) right rest all full (suc n) l =
      let more : Tokens = Token.Sign m.CloseCurly right ∷ rest in
      let c = case_close (group_tokens x ++ more) (group_begins x more all.0) in
      let a = group_again x more all.0 refl (λ h. refl) in
      let b = groups_again [] right rest tt tt n (omega arith) in
      ap (r.many r.begins_close (r.group_read R d) (suc n)) (append_assoc (group_tokens x) [] more) ∙ rw (c, a, b) refl
  groups_again (x ∷ y ∷ xs) right rest all full (suc n) l =
      let end : Tokens = Token.Sign m.CloseCurly right ∷ rest in
      let tail : Tokens = joined (map group_tokens xs) ++ end in
      let more : Tokens = joined (map group_tokens (y ∷ xs)) ++ end in
      let begins : r.begins_case more ≡ true = ap r.begins_case (append_assoc (group_tokens y) (joined (map group_tokens xs)) end) ∙ group_begins y tail all.1.0 in
      let c = case_close (group_tokens x ++ more) (group_begins x more all.0) in
      let many = full.0 in
      let a = group_again x more all.0 (case_group more begins) (λ h. absurd (omega (arith, h, many))) in
      let b = groups_again (y ∷ xs) right rest all.1 full.1 n (omega (arith, l)) in
      ap (r.many r.begins_close (r.group_read R d) (suc n)) (append_assoc (group_tokens x) (joined (map group_tokens (y ∷ xs))) end) ∙ rw (c, a, b) refl

  groups_longer : (xs : List JCaseGroup) → AllByRecursion GroupStands xs → length xs ≤ length (joined (map group_tokens xs))
  groups_longer [] all = omega arith
  groups_longer (x ∷ xs) all =
      let l = length-append (group_tokens x) (joined (map group_tokens xs)) in
      let f = longer (group_tokens x) (group_begins x [] all.0) in
      let g = groups_longer xs all.1 in
      omega (arith, l, f, g)
    where
      longer : (ts : Tokens) → r.begins_case (ts ++ []) ≡ true → 1 ≤ length ts
      longer [] h = absurd (cc h)
      longer (t ∷ ts) h = omega arith

  switch_again : (at lp : Position) (x : JExpr) (xs : List JBody) (rp left : Position) (groups : List JCaseGroup) (right : Position) (rest : Tokens) → condition_stands P d x xs
      → AllByRecursion GroupStands groups → full_before groups
      → r.switch_statement R d at ((Token.Sign m.OpenRound lp ∷ (shown x xs ++ Token.Sign m.CloseRound rp ∷ braced left (map group_tokens groups) right)) ++ rest)
      ≡ Some (st.Switch at lp x xs rp left groups right, rest)
  unfolding r.switch_statement
  switch_again at lp x xs rp left groups right rest s all full =
      let B : Tokens = braced left (map group_tokens groups) right in
      let T : Tokens = joined (map group_tokens groups) in
      let end : Tokens = Token.Sign m.CloseCurly right ∷ rest in
      let l1 = length-append T end in
      let l2 = groups_longer groups all in
      let g = braced_again JCaseGroup group_tokens (r.until r.begins_close (r.group_read R d)) left groups right rest (groups_again groups right rest all full (length (T ++ end)) (omega (arith, l1, l2))) in
      ap (r.switch_statement R d at) (behind_round lp (shown x xs) rp B rest) ∙ rw (condition_again lp x xs rp (B ++ rest) s, g) refl

  -- ---- `try`

  abbrev pub CatchStands : JCatch → Type 0
  CatchStands x = catch_stands P d (out-JCatch x)

  catch_layer : (x : JCatch-F JBody JMember JStatement JCase JCaseGroup JCatch) (rest : Tokens) → catch_stands P d x → r.catch_read R d (catch_tokens (roll-JCatch x) ++ rest) ≡ Some (roll-JCatch x, rest)
  unfolding r.catch_read TypedStands
  catch_layer x rest s =
      let B : Tokens = braced x.left (map statement_tokens x.statements) x.right in
      let us : Tokens = Token.Sign m.CloseRound x.closes ∷ (B ++ rest) in
      ap (λ (l : Tokens). r.catch_read R d (l ++ rest)) (tokens_Catch x)
      ∙ ap (λ (l : Tokens). r.catch_read R d (Token.Word w.Catch x.at ∷ Token.Sign m.OpenRound x.opens ∷ l)) (append_assoc (typed_tokens x.caught) (Token.Sign m.CloseRound x.closes ∷ B) rest)
      ∙ rw (typed_again (suc d) x.caught s.0 us, block_again P R S d x.left x.statements x.right rest s.1) refl

  catch_again : (x : JCatch) → CatchStands x → (rest : Tokens) → r.catch_read R d (catch_tokens x ++ rest) ≡ Some (x, rest)
  catch_again x s rest = subst (λ (z : JCatch). r.catch_read R d (catch_tokens z ++ rest) ≡ Some (z, rest)) (roll-out-JCatch x) (catch_layer (out-JCatch x) rest s)

  catch_begins : (x : JCatch) (rest : Tokens) → r.begins_catch (catch_tokens x ++ rest) ≡ true
  catch_begins x rest = subst (λ (z : JCatch). r.begins_catch (catch_tokens z ++ rest) ≡ true) (roll-out-JCatch x) (ap (λ (l : Tokens). r.begins_catch (l ++ rest)) (tokens_Catch (out-JCatch x)))

  catch_items : Items JCatch catch_tokens CatchStands r.no_catch (r.catch_read R d) (λ ts. true)
  catch_items = record {
    reads = λ x s rest h. catch_again x s rest;
    full = λ x s. longer (catch_tokens x) (catch_begins x []);
    runs = λ x s rest. ap not (catch_begins x rest);
    follows = λ x s rest. refl;
  }
    where
      longer : (ts : Tokens) → r.begins_catch (ts ++ []) ≡ true → 1 ≤ length ts
      longer [] h = absurd (cc h)
      longer (t ∷ ts) h = omega arith

  catches_again : (xs : List JCatch) (rest : Tokens) → AllByRecursion CatchStands xs → r.no_catch rest ≡ true → r.until r.no_catch (r.catch_read R d) (joined (map catch_tokens xs) ++ rest) ≡ Some (xs, rest)
  catches_again xs rest all h = until_again JCatch catch_tokens CatchStands r.no_catch (r.catch_read R d) (λ ts. true) catch_items xs rest all h refl

  handles_catch : (ts : Tokens) → handles ts ≡ false → r.no_catch ts ≡ true
  handles_catch (Token.Word w.Catch at ∷ ts) h = absurd (cc h)
  handles_catch _ h = refl

  try_plain : (at : Position) (x : r.Braced JStatement) (c : JCatch) (cs : List JCatch) (ts : Tokens) → handles ts ≡ false → r.try_end R d at x (c ∷ cs) ts ≡ Some (st.Try at x.opens x.items x.closes (c ∷ cs), ts)
  try_plain at x c cs (Token.Word w.Finally last ∷ rest) h = absurd (cc h)
  try_plain at x c cs _ h = refl

  try_again : (at left : Position) (xs : List JStatement) (right : Position) (catches : List JCatch) (rest : Tokens) → block_stands P d xs → 1 ≤ length catches → AllByRecursion CatchStands catches
      → handles rest ≡ false → r.try_read R d at ((braced left (map statement_tokens xs) right ++ joined (map catch_tokens catches)) ++ rest) ≡ Some (st.Try at left xs right catches, rest)
  unfolding r.try_read
  try_again at left xs right [] rest s full all h = absurd (omega (arith, full))
  try_again at left xs right (c ∷ cs) rest s full all h =
      let B : Tokens = braced left (map statement_tokens xs) right in
      let C : Tokens = joined (map catch_tokens (c ∷ cs)) in
      ap (r.try_read R d at) (append_assoc B C rest)
      ∙ rw (block_again P R S d left xs right (C ++ rest) s, catches_again (c ∷ cs) rest all (handles_catch rest h)) (try_plain at (record { opens = left; items = xs; closes = right }) c cs rest h)

  finally_again : (at left : Position) (xs : List JStatement) (right : Position) (catches : List JCatch) (last lc : Position) (ys : List JStatement) (rc : Position) (rest : Tokens) → block_stands P d xs
      → AllByRecursion CatchStands catches → block_stands P d ys
      → r.try_read R d at ((braced left (map statement_tokens xs) right ++ (joined (map catch_tokens catches) ++ Token.Word w.Finally last ∷ braced lc (map statement_tokens ys) rc)) ++ rest)
      ≡ Some (st.TryFinally at left xs right catches last lc ys rc, rest)
  unfolding r.try_read r.finally_read
  finally_again at left xs right catches last lc ys rc rest s all t =
      let B : Tokens = braced left (map statement_tokens xs) right in
      let C : Tokens = joined (map catch_tokens catches) in
      let F : Tokens = Token.Word w.Finally last ∷ braced lc (map statement_tokens ys) rc in
      ap (r.try_read R d at) (append_assoc B (C ++ F) rest ∙ ap (λ (l : Tokens). B ++ l) (append_assoc C F rest))
      ∙ rw (block_again P R S d left xs right (C ++ (F ++ rest)) s, catches_again catches (F ++ rest) all refl, block_again P R S d lc ys rc rest t) refl

  -- ---- any statement

  statement_layer : (place : Role) (layer : Layer) (rest : Tokens) → statement_stands P d place layer → Follows (roll-JStatement layer) rest
      → r.statement_step R d place (statement_tokens (roll-JStatement layer) ++ rest) ≡ Some (roll-JStatement layer, rest)
  statement_layer place (JStatement-F.Simple x bodies end) rest s g =
      carried place (JStatement-F.Simple x bodies end) (st.Simple x bodies end) _ rest (st.rolls-Simple x bodies end) (tokens_Simple x bodies end) (λ f. simple_again place x bodies end rest s.0 s.1 s.2) g
  statement_layer place (JStatement-F.Block left xs right) rest s g =
      carried place (JStatement-F.Block left xs right) (st.Block left xs right) _ rest (st.rolls-Block left xs right) (tokens_Block left xs right) (λ f. block_statement_again left xs right rest s) g
  statement_layer place (JStatement-F.Labeled n at colon x) rest s g =
      carried place (JStatement-F.Labeled n at colon x) (st.Labeled n at colon x) _ rest (st.rolls-Labeled n at colon x) (tokens_Labeled n at colon x) (λ f. labeled_again n at colon x rest s (record { handles = f.handles; shut = λ h. f.shut (open_Labeled n at colon x ∙ h) })) g
  statement_layer place (JStatement-F.If at lp x bodies rp y) rest s g =
      carried place (JStatement-F.If at lp x bodies rp y) (st.If at lp x bodies rp y) _ rest (st.rolls-If at lp x bodies rp y) (tokens_If at lp x bodies rp y) (λ f. if_again at lp x bodies rp y rest s.0 s.1 f.handles (f.shut (open_If at lp x bodies rp y))) g
  statement_layer place (JStatement-F.IfElse at lp x bodies rp y else_at z) rest s g =
      carried place (JStatement-F.IfElse at lp x bodies rp y else_at z) (st.IfElse at lp x bodies rp y else_at z) _ rest (st.rolls-IfElse at lp x bodies rp y else_at z) (tokens_IfElse at lp x bodies rp y else_at z) (λ f. if_else_again at lp x bodies rp y else_at z rest s.0 s.1 s.2 s.3 (record { handles = f.handles; shut = λ h. f.shut (open_IfElse at lp x bodies rp y else_at z ∙ h) })) g
  statement_layer place (JStatement-F.While at lp x bodies rp y) rest s g =
      carried place (JStatement-F.While at lp x bodies rp y) (st.While at lp x bodies rp y) _ rest (st.rolls-While at lp x bodies rp y) (tokens_While at lp x bodies rp y) (λ f. while_again at lp x bodies rp y rest s.0 s.1 (record { handles = f.handles; shut = λ h. f.shut (open_While at lp x bodies rp y ∙ h) })) g
  statement_layer place (JStatement-F.Do at y while_at lp x bodies rp end) rest s g =
      carried place (JStatement-F.Do at y while_at lp x bodies rp end) (st.Do at y while_at lp x bodies rp end) _ rest (st.rolls-Do at y while_at lp x bodies rp end) (tokens_Do at y while_at lp x bodies rp end) (λ f. do_again at y while_at lp x bodies rp end rest s.0 s.1) g
  statement_layer place (JStatement-F.For at lp x bodies rp y) rest s g =
      carried place (JStatement-F.For at lp x bodies rp y) (st.For at lp x bodies rp y) _ rest (st.rolls-For at lp x bodies rp y) (tokens_For at lp x bodies rp y) (λ f. loop_again at lp x bodies rp y rest s.0 s.1 s.2 (record { handles = f.handles; shut = λ h. f.shut (open_For at lp x bodies rp y ∙ h) })) g
  statement_layer place (JStatement-F.Switch at lp x bodies rp left groups right) rest s g =
      carried place (JStatement-F.Switch at lp x bodies rp left groups right) (st.Switch at lp x bodies rp left groups right) _ rest (st.rolls-Switch at lp x bodies rp left groups right) (tokens_Switch at lp x bodies rp left groups right) (λ f. switch_again at lp x bodies rp left groups right rest s.0 s.1 s.2) g
  statement_layer place (JStatement-F.Synchronized at lp x bodies rp left ys right) rest s g =
      carried place (JStatement-F.Synchronized at lp x bodies rp left ys right) (st.Synchronized at lp x bodies rp left ys right) _ rest (st.rolls-Synchronized at lp x bodies rp left ys right) (tokens_Synchronized at lp x bodies rp left ys right) (λ f. synchronized_again at lp x bodies rp left ys right rest s.0 s.1 s.2) g
  statement_layer place (JStatement-F.Try at left xs right catches) rest s g =
      carried place (JStatement-F.Try at left xs right catches) (st.Try at left xs right catches) _ rest (st.rolls-Try at left xs right catches) (tokens_Try at left xs right catches) (λ f. try_again at left xs right catches rest s.0 s.1 s.2 f.handles) g
  statement_layer place (JStatement-F.TryFinally at left xs right catches last lc ys rc) rest s g =
      carried place (JStatement-F.TryFinally at left xs right catches last lc ys rc) (st.TryFinally at left xs right catches last lc ys rc) _ rest (st.rolls-TryFinally at left xs right catches last lc ys rc) (tokens_TryFinally at left xs right catches last lc ys rc) (λ f. finally_again at left xs right catches last lc ys rc rest s.0 s.1 s.2) g

  pub statement_again : (place : Role) (x : JStatement) (rest : Tokens) → node_stands P d (Node.Statement place x) → Follows x rest → r.statement_step R d place (statement_tokens x ++ rest) ≡ Some (x, rest)
  statement_again place x rest s f =
      let G : JStatement → Type 0 = λ z. Follows z rest → r.statement_step R d place (statement_tokens z ++ rest) ≡ Some (z, rest) in
      subst G (roll-out-JStatement x) (statement_layer place (out-JStatement x) rest s) f

  fresh_made : (layer : Layer) (x : JStatement) (text rest : Tokens) → roll-JStatement layer ≡ x → statement_tokens x ≡ text → Fresh (text ++ rest) → Fresh (statement_tokens (roll-JStatement layer) ++ rest)
  fresh_made layer x text rest rolls spelled f = subst (λ (l : Tokens). Fresh (l ++ rest)) (sym (ap statement_tokens rolls ∙ spelled)) f

  fresh_at : (x : Token) (ts : Tokens) → fresh x ≡ true → Fresh (x ∷ ts)
  fresh_at x ts h = record { head = x; tail = ts; is = refl; fresh = h }

  led_fresh : (ts : Tokens) → Led ts → Fresh ts
  led_fresh ts f = record { head = f.head; tail = f.tail; is = f.is; fresh = leads_fresh f.head f.leads }

  simple_fresh : (place : Role) (x : JSimple) (xs : List JBody) (end : Position) (rest : Tokens) → SimpleStands d x → HeadStands P d (simple_tokens x) (simple_levels x) xs
      → Fresh ((filled (simple_tokens x) (map body_tokens xs) ++ Token.Sign m.Semicolon end ∷ []) ++ rest)
  simple_fresh place x xs end rest s h =
      let text : Tokens = filled (simple_tokens x) (map body_tokens xs) in
      subst Fresh (sym (append_assoc text (Token.Sign m.Semicolon end ∷ []) rest)) (led_fresh _ (filled_leads (simple_tokens x) (map body_tokens xs) end rest (simple_leads d x end rest s) h.are.counted))

  fresh_layer : (place : Role) (layer : Layer) (rest : Tokens) → statement_stands P d place layer → Fresh (statement_tokens (roll-JStatement layer) ++ rest)
  fresh_layer place (JStatement-F.Simple x bodies end) rest s =
      fresh_made (JStatement-F.Simple x bodies end) (st.Simple x bodies end) _ rest (st.rolls-Simple x bodies end) (tokens_Simple x bodies end) (simple_fresh place x bodies end rest s.1 s.2)
  fresh_layer place (JStatement-F.Block left xs right) rest s =
      fresh_made (JStatement-F.Block left xs right) (st.Block left xs right) _ rest (st.rolls-Block left xs right) (tokens_Block left xs right) (fresh_at _ _ refl)
  fresh_layer place (JStatement-F.Labeled n at colon x) rest s =
      fresh_made (JStatement-F.Labeled n at colon x) (st.Labeled n at colon x) _ rest (st.rolls-Labeled n at colon x) (tokens_Labeled n at colon x) (fresh_at _ _ refl)
  fresh_layer place (JStatement-F.If at lp x bodies rp y) rest s =
      fresh_made (JStatement-F.If at lp x bodies rp y) (st.If at lp x bodies rp y) _ rest (st.rolls-If at lp x bodies rp y) (tokens_If at lp x bodies rp y) (fresh_at _ _ refl)
  fresh_layer place (JStatement-F.IfElse at lp x bodies rp y else_at z) rest s =
      fresh_made (JStatement-F.IfElse at lp x bodies rp y else_at z) (st.IfElse at lp x bodies rp y else_at z) _ rest (st.rolls-IfElse at lp x bodies rp y else_at z) (tokens_IfElse at lp x bodies rp y else_at z) (fresh_at _ _ refl)
  fresh_layer place (JStatement-F.While at lp x bodies rp y) rest s =
      fresh_made (JStatement-F.While at lp x bodies rp y) (st.While at lp x bodies rp y) _ rest (st.rolls-While at lp x bodies rp y) (tokens_While at lp x bodies rp y) (fresh_at _ _ refl)
  fresh_layer place (JStatement-F.Do at y while_at lp x bodies rp end) rest s =
      fresh_made (JStatement-F.Do at y while_at lp x bodies rp end) (st.Do at y while_at lp x bodies rp end) _ rest (st.rolls-Do at y while_at lp x bodies rp end) (tokens_Do at y while_at lp x bodies rp end) (fresh_at _ _ refl)
  fresh_layer place (JStatement-F.For at lp x bodies rp y) rest s =
      fresh_made (JStatement-F.For at lp x bodies rp y) (st.For at lp x bodies rp y) _ rest (st.rolls-For at lp x bodies rp y) (tokens_For at lp x bodies rp y) (fresh_at _ _ refl)
  fresh_layer place (JStatement-F.Switch at lp x bodies rp left groups right) rest s =
      fresh_made (JStatement-F.Switch at lp x bodies rp left groups right) (st.Switch at lp x bodies rp left groups right) _ rest (st.rolls-Switch at lp x bodies rp left groups right) (tokens_Switch at lp x bodies rp left groups right) (fresh_at _ _ refl)
  fresh_layer place (JStatement-F.Synchronized at lp x bodies rp left ys right) rest s =
      fresh_made (JStatement-F.Synchronized at lp x bodies rp left ys right) (st.Synchronized at lp x bodies rp left ys right) _ rest (st.rolls-Synchronized at lp x bodies rp left ys right) (tokens_Synchronized at lp x bodies rp left ys right) (fresh_at _ _ refl)
  fresh_layer place (JStatement-F.Try at left xs right catches) rest s =
      fresh_made (JStatement-F.Try at left xs right catches) (st.Try at left xs right catches) _ rest (st.rolls-Try at left xs right catches) (tokens_Try at left xs right catches) (fresh_at _ _ refl)
  fresh_layer place (JStatement-F.TryFinally at left xs right catches last lc ys rc) rest s =
      fresh_made (JStatement-F.TryFinally at left xs right catches last lc ys rc) (st.TryFinally at left xs right catches last lc ys rc) _ rest (st.rolls-TryFinally at left xs right catches last lc ys rc) (tokens_TryFinally at left xs right catches last lc ys rc) (fresh_at _ _ refl)

  pub statement_fresh : (place : Role) (x : JStatement) (rest : Tokens) → node_stands P d (Node.Statement place x) → Fresh (statement_tokens x ++ rest)
  statement_fresh place x rest s = subst (λ (z : JStatement). Fresh (statement_tokens z ++ rest)) (roll-out-JStatement x) (fresh_layer place (out-JStatement x) rest s)

  -- ---- bodies

  body_layer : (x : JBody-F JBody JMember JStatement JCase JCaseGroup JCatch) → body_stands P d x → r.body_step R d (is_block (roll-JBody x)) (body_tokens (roll-JBody x)) ≡ Some (roll-JBody x)
  unfolding r.body_step
  body_layer (JBody-F.Statements xs) s =
      let T : Tokens = joined (map statement_tokens xs) in
      let kind : is_block (body.Statements xs) ≡ true = ap is_block_by (out_body (JBody-F.Statements xs) (body.Statements xs) (body.rolls-Statements xs)) in
      let a = until_again JStatement statement_tokens (λ x. P d (Node.Statement Role.Inner x)) r.is_end (R.statement d Role.Inner) goes_on (inner_items P R S d r.is_end fresh_end) xs [] s refl refl in
      let b : r.until r.is_end (R.statement d Role.Inner) T ≡ Some (xs, []) = ap (r.until r.is_end (R.statement d Role.Inner)) (sym (append-nil T)) ∙ a in
      subst (λ (z : JBody). r.body_step R d (is_block z) (body_tokens z) ≡ Some z) (sym (body.rolls-Statements xs))
      (ap (λ k. r.body_step R d k (body_tokens (body.Statements xs))) kind ∙ ap (r.body_step R d true) (tokens_Statements xs) ∙ rw b refl)
  body_layer (JBody-F.Members xs) s =
      let T : Tokens = joined (map whole_member_tokens xs) in
      let owner : Owner = Owner.Class None in
      let kind : is_block (body.Members xs) ≡ false = ap is_block_by (out_body (JBody-F.Members xs) (body.Members xs) (body.rolls-Members xs)) in
      let a = until_again JMember whole_member_tokens (λ x. P (suc d) (Node.Member owner x)) r.is_end (R.member (suc d) owner) (λ ts. true) (member_items (suc d) owner) xs [] s refl refl in
      let b : r.until r.is_end (R.member (suc d) owner) T ≡ Some (xs, []) = ap (r.until r.is_end (R.member (suc d) owner)) (sym (append-nil T)) ∙ a in
      subst (λ (z : JBody). r.body_step R d (is_block z) (body_tokens z) ≡ Some z) (sym (body.rolls-Members xs))
      (ap (λ k. r.body_step R d k (body_tokens (body.Members xs))) kind ∙ ap (r.body_step R d false) (tokens_Members xs) ∙ rw b refl)
    where
      runs : (ts rest : Tokens) → 1 ≤ length ts → r.is_end (ts ++ rest) ≡ false
      runs [] rest h = absurd (omega (arith, h))
      runs (t ∷ ts) rest h = refl

      member_items : (e : ℕ) (owner : Owner) → Items JMember whole_member_tokens (λ x. P e (Node.Member owner x)) r.is_end (R.member e owner) (λ ts. true)
      member_items e owner = record {
        reads = λ x s rest h. S.member e owner x s rest;
        full = λ x s. (S.member_begins e owner x s).full;
        runs = λ x s rest. runs (whole_member_tokens x) rest (S.member_begins e owner x s).full;
        follows = λ x s rest. refl;
      }

  pub body_again : (x : JBody) → node_stands P d (Node.Body x) → r.body_step R d (is_block x) (body_tokens x) ≡ Some x
  body_again x s = subst (λ (z : JBody). r.body_step R d (is_block z) (body_tokens z) ≡ Some z) (roll-out-JBody x) (body_layer (out-JBody x) s)

  -- ---- labels

  abbrev CaseLayer : Type 0
  CaseLayer = JCase-F JBody JMember JStatement JCase JCaseGroup JCatch

  label_by : (x : CaseLayer) (text : Tokens) (at : Position) (rest : Tokens) → switch_tokens x.label ≡ text ++ Token.Sign m.Colon at ∷ [] → Passes Stop.Colon text → case_stands P d x
      → r.label_step R d (case_tokens (roll-JCase x) ++ rest) ≡ Some (roll-JCase x, rest)
  unfolding r.label_step
  label_by x text at rest same passes s =
      let z : Tokens = Token.Sign m.Colon at ∷ [] in
      let t : Tail z = mark_tail m.Colon at refl in
      let bs : List Tokens = map body_tokens x.bodies in
      let F : Tokens → Type 0 = λ l. HeadStands P d l (switch_levels x.label) x.bodies in
      let h : HeadStands P d (text ++ z) (switch_levels x.label) x.bodies = subst F same s.1 in
      let counted : map length bs ≡ counts text = h.are.counted ∙ counts_end text z t in
      let fill = filled_end text z bs t counted in
      let p : pieces (length (filled text bs ++ z)) (filled text bs ++ z) ≡ text ++ z = ap (λ (l : Tokens). pieces (length l) l) (sym fill) ∙ sym h.are.numbered in
      let ends : Ends Stop.Colon (z ++ rest) = record { head = Token.Sign m.Colon at; tail = rest; is = refl; closes = refl } in
      let c = cut_kept Stop.Colon text bs z rest z (passed Stop.Colon text passes) ends counted p in
      let law = switch_is_read (suc d) (text ++ z) x.label s.0 same in
      let b = bodies_again P R S d (switch_levels x.label) (spans text) x.bodies (h.are.each ∙ spans_end text z t) h.stand in
      ap (λ (l : Tokens). r.label_step R d (l ++ rest)) (tokens_Case x ∙ ap (λ (l : Tokens). filled l bs) same ∙ fill) ∙ ap (r.label_step R d) (append_assoc (filled text bs) z rest) ∙ rw (c, law, b) refl

  label_layer : (label : JSwitchLabel) (x : CaseLayer) (rest : Tokens) → x.label ≡ label → SwitchStands (suc d) label → case_stands P d x → r.label_step R d (case_tokens (roll-JCase x) ++ rest) ≡ Some (roll-JCase x, rest)
  unfolding SwitchStands
  label_layer (label.Case at value colon) x rest is good s =
      label_by x (Token.Word w.Case at ∷ tokens value) colon rest (ap switch_tokens is) (plainly Stop.Colon refl (expr_passes Stop.Colon d value good)) s
  label_layer (label.Default at colon) x rest is good s = label_by x (Token.Word w.Default at ∷ []) colon rest (ap switch_tokens is) (plainly Stop.Colon refl (none Stop.Colon)) s

  pub label_again : (x : JCase) (rest : Tokens) → node_stands P d (Node.Case x) → r.label_step R d (case_tokens x ++ rest) ≡ Some (x, rest)
  label_again x rest s =
      subst (λ (z : JCase). r.label_step R d (case_tokens z ++ rest) ≡ Some (z, rest)) (roll-out-JCase x) (label_layer (out-JCase x).label (out-JCase x) rest refl s.0 s)

  label_first : (label : JSwitchLabel) (bs : List Tokens) (rest : Tokens) → r.begins_case (filled (switch_tokens label) bs ++ rest) ≡ true
  label_first (label.Case at value end) bs rest = refl
  label_first (label.Default at end) bs rest = refl

  pub case_begins : (x : JCase) (rest : Tokens) → r.begins_case (case_tokens x ++ rest) ≡ true
  case_begins x rest =
      let y = out-JCase x in
      subst (λ (z : JCase). r.begins_case (case_tokens z ++ rest) ≡ true) (roll-out-JCase x)
      (ap (λ (l : Tokens). r.begins_case (l ++ rest)) (tokens_Case y) ∙ label_first y.label (map body_tokens y.bodies) rest)
