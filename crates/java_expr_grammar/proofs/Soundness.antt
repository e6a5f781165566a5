-- What is read is spelled so, and stands.
use Rattle.std.proofs.Common.{◌≡◌, ◌≤◌, ◌+◌, ℕ, zero, suc, Bool, true, false, not, ◌&&◌, ◌||◌, ◌++◌, List, [], ◌∷◌, length, map, Option, Some, None, inl, inr, refl, ap, sym, ◌∙◌, subst, append_assoc, arith, nat_lt, nat_le}
use Rattle.std.specs.List.{AllByRecursion}
use Rattle.java_tree.specs.declared.tokens.Position.{Position}
use Rattle.java_tree.specs.declared.tokens.Mark.{Mark}
use Rattle.java_tree.specs.declared.tokens.Mark.TheVariants as m
use Rattle.java_tree.specs.Seen.{Token}
use Rattle.java_tree.specs.declared.tokens.Keyword.{Keyword}
use Rattle.java_tree.specs.declared.tokens.Keyword.TheVariants as w
use Rattle.java_tree.specs.declared.exprs.PrefixOp.{PrefixOp}
use Rattle.java_tree.specs.declared.exprs.PrefixOp.TheVariants as prefix
use Rattle.java_tree.specs.declared.exprs.Span.{Span}
use Rattle.java_tree.specs.declared.exprs.JLiteral.{JLiteral}
use Rattle.java_tree.specs.declared.exprs.JCreated.{JCreated}
use Rattle.java_tree.specs.declared.exprs.JCreated.TheVariants as created
use Rattle.java_tree.specs.declared.exprs.JTypedParam.{JTypedParam}
use Rattle.java_tree.specs.declared.types.JQualified.{JQualified}
use Rattle.java_tree.specs.declared.types.JBrackets.{JBrackets}
use Rattle.java_tree.specs.declared.types.JType.{JType}
use Rattle.java_tree.specs.declared.exprs.JParam.{JParam}
use Rattle.java_tree.specs.declared.exprs.JParams.{JParams}
use Rattle.java_tree.specs.declared.exprs.JParams.TheVariants as params
use Rattle.java_tree.specs.declared.exprs.JExpr.{JExpr, out-JExpr, roll-JExpr, out-roll-JExpr, map-JExpr}
use Rattle.java_tree.specs.declared.exprs.JExpr.TheVariants as e
use Rattle.java_tree.specs.declared.exprs.JExpr.TheOpen.{JExpr-F}
use Rattle.java_tree.specs.Seen.{Tokens}
use Rattle.java_tree.specs.Trees.{listed, AreBetween, prefix_mark, postfix_mark, operator_tokens, assign_tokens, level, init_level, any_level, else_level, cond_level, or_level, relation_level, unary_level, postfix_level, primary_level, tokens, tokens_by, depth, top, top_by, is_left, is_left_by, is_least, is_sized, is_class, is_array, closing, trailing, args_close, braces_tokens, brackets_tokens, qualified_tokens, created_tokens, created_depth, created_stands, typed_tokens, TypedStands, TypeStands, type_tokens, stands_by, Stands, may_cast, begins_sign, param_tokens, params_tokens, params_stand}
use Rattle.java_expr_grammar.specs.Reading as r
use Rattle.java_expr_grammar.specs.Reading.{Reader, ◌>>=◌, maybe}
use Rattle.java_expr_grammar.specs.declared.suffix.Suffix.{Suffix}
use Rattle.java_expr_grammar.specs.declared.suffix.Suffix.TheVariants as sx
use Rattle.std.specs.Prelude.{if◌then◌else◌}
use Rattle.java_expr_grammar.proofs.Tools.{bind_some, guard_some, cond_is, maybe_is, some_same, le_true, lt_false, both_true}
use Rattle.java_expr_grammar.proofs.Lists as lists
use Rattle.java_expr_grammar.proofs.ExprParts.{depth_MinusLeast, depth_LambdaBlock, depth_New}
use Rattle.java_expr_grammar.proofs.TypeLaws.{type_sound, base_sound, typed_sound, qualified_sound, brackets_sound, closes_only, ident_only}
use Rattle.java_expr_grammar.proofs.Trees.{spelled, top_roll, resize, at_level, level_is}
use Rattle.java_expr_grammar.proofs.First.{first, sign_same}

-- ---- single tokens

pub close_only : (ts : Tokens) (c : Position × Tokens) → r.close ts ≡ Some c → ts ≡ Token.Sign m.CloseRound c.0 ∷ c.1
close_only (Token.Sign m.CloseRound at ∷ rest) c e = let same : (at, rest) ≡ c = some_same e in ap (λ (x : Position × Tokens). Token.Sign m.CloseRound x.0 ∷ x.1) same
close_only _ c e = absurd (cc e)

pub colon_only : (ts : Tokens) (c : Position × Tokens) → r.colon ts ≡ Some c → ts ≡ Token.Sign m.Colon c.0 ∷ c.1
colon_only (Token.Sign m.Colon at ∷ rest) c e = let same : (at, rest) ≡ c = some_same e in ap (λ (x : Position × Tokens). Token.Sign m.Colon x.0 ∷ x.1) same
colon_only _ c e = absurd (cc e)

arrow_only : (ts : Tokens) (c : Position × Tokens) → r.arrow ts ≡ Some c → ts ≡ Token.Sign m.Arrow c.0 ∷ c.1
arrow_only (Token.Sign m.Arrow at ∷ rest) c e = let same : (at, rest) ≡ c = some_same e in ap (λ (x : Position × Tokens). Token.Sign m.Arrow x.0 ∷ x.1) same
arrow_only _ c e = absurd (cc e)

open_round_only : (ts : Tokens) (c : Position × Tokens) → r.open_round ts ≡ Some c → ts ≡ Token.Sign m.OpenRound c.0 ∷ c.1
open_round_only (Token.Sign m.OpenRound at ∷ rest) c e = let same : (at, rest) ≡ c = some_same e in ap (λ (x : Position × Tokens). Token.Sign m.OpenRound x.0 ∷ x.1) same
open_round_only _ c e = absurd (cc e)

close_square_only : (ts : Tokens) (c : Position × Tokens) → r.close_square ts ≡ Some c → ts ≡ Token.Sign m.CloseSquare c.0 ∷ c.1
close_square_only (Token.Sign m.CloseSquare at ∷ rest) c e = let same : (at, rest) ≡ c = some_same e in ap (λ (x : Position × Tokens). Token.Sign m.CloseSquare x.0 ∷ x.1) same
close_square_only _ c e = absurd (cc e)

dot_only : (ts : Tokens) (c : Position × Tokens) → r.dot ts ≡ Some c → ts ≡ Token.Sign m.Dot c.0 ∷ c.1
dot_only (Token.Sign m.Dot at ∷ rest) c e = let same : (at, rest) ≡ c = some_same e in ap (λ (x : Position × Tokens). Token.Sign m.Dot x.0 ∷ x.1) same
dot_only _ c e = absurd (cc e)

open_curly_only : (ts : Tokens) (c : Position × Tokens) → r.open_curly ts ≡ Some c → ts ≡ Token.Sign m.OpenCurly c.0 ∷ c.1
open_curly_only (Token.Sign m.OpenCurly at ∷ rest) c e = let same : (at, rest) ≡ c = some_same e in ap (λ (x : Position × Tokens). Token.Sign m.OpenCurly x.0 ∷ x.1) same
open_curly_only _ c e = absurd (cc e)

args_end_only : (ts : Tokens) (c : (Position × Option Span) × Tokens) → r.args_end ts ≡ Some c → ts ≡ args_close c.0.0 c.0.1 ∷ c.1
args_end_only (Token.Sign m.CloseRound at ∷ rest) c e = let same : ((at, None), rest) ≡ c = some_same e in ap (λ (x : (Position × Option Span) × Tokens). args_close x.0.0 x.0.1 ∷ x.1) same
args_end_only (Token.CloseBody at body ∷ rest) c e = let same : ((at, Some body), rest) ≡ c = some_same e in ap (λ (x : (Position × Option Span) × Tokens). args_close x.0.0 x.0.1 ∷ x.1) same
args_end_only _ c e = absurd (cc e)

braces_end_only : (ts : Tokens) (c : (Option Position × Position) × Tokens) → r.braces_end ts ≡ Some c → ts ≡ trailing c.0.0 ++ Token.Sign m.CloseCurly c.0.1 ∷ c.1
braces_end_only (Token.Sign m.Comma at ∷ Token.Sign m.CloseCurly rc ∷ rest) c e =
    let same : ((Some at, rc), rest) ≡ c = some_same e in ap (λ (x : (Option Position × Position) × Tokens). trailing x.0.0 ++ Token.Sign m.CloseCurly x.0.1 ∷ x.1) same
braces_end_only (Token.Sign m.CloseCurly rc ∷ rest) c e =
    let same : ((None, rc), rest) ≡ c = some_same e in ap (λ (x : (Option Position × Position) × Tokens). trailing x.0.0 ++ Token.Sign m.CloseCurly x.0.1 ∷ x.1) same
braces_end_only _ c e = absurd (cc e)

-- a name with `<` and `>` behind it, which stands where its depth fits
abbrev Infers : Tokens → JCreated × Tokens → Type 0
Infers ts c = (ts ≡ created_tokens c.0 ++ c.1) × ((d : ℕ) → created_depth c.0 ≤ d → created_stands d c.0)

inferred_by_only : (q : JQualified) (ts : Tokens) (c : JCreated × Tokens) → r.inferred_by q ts ≡ Some c → Infers (qualified_tokens q ++ ts) c
inferred_by_only q (Token.Sign m.Less lp ∷ rest) c e =
    let a = bind_some (r.closes rest) _ _ e in
    subst (Infers (qualified_tokens q ++ Token.Sign m.Less lp ∷ rest)) (some_same a.2) (
      ap (λ r. qualified_tokens q ++ Token.Sign m.Less lp ∷ r) (closes_only rest a.0 a.1) ∙ sym (append_assoc (qualified_tokens q) (Token.Sign m.Less lp ∷ Token.Sign (closing a.0.0.0) a.0.0.1 ∷ []) a.0.1),
      λ d h. tt,
    )
inferred_by_only q _ c e = absurd (cc e)

inferred_only : (ts : Tokens) (c : JCreated × Tokens) → r.inferred ts ≡ Some c → Infers ts c
inferred_only (Token.Id n at ∷ rest) c e =
    subst (λ ts. Infers ts c) (sym (qualified_sound n at rest)) (inferred_by_only (r.qualified n at rest).0 (r.qualified n at rest).1 c e)
inferred_only _ c e = absurd (cc e)

prefix_only : (mark : Mark) (op : PrefixOp) → r.prefix_by mark ≡ Some op → mark ≡ prefix_mark op
prefix_only m.Plus op e = let same : prefix.Plus ≡ op = some_same e in ap prefix_mark same
prefix_only m.Minus op e = let same : prefix.Minus ≡ op = some_same e in ap prefix_mark same
prefix_only m.PlusPlus op e = let same : prefix.Increment ≡ op = some_same e in ap prefix_mark same
prefix_only m.MinusMinus op e = let same : prefix.Decrement ≡ op = some_same e in ap prefix_mark same
prefix_only m.Tilde op e = let same : prefix.Complement ≡ op = some_same e in ap prefix_mark same
prefix_only m.Not op e = let same : prefix.Not ≡ op = some_same e in ap prefix_mark same
prefix_only _ op e = absurd (cc e)

abbrev pub suffix_tokens : Suffix → Tokens
suffix_tokens (sx.Binary op at) = operator_tokens op at
suffix_tokens (sx.Assign op at) = assign_tokens op at
suffix_tokens (sx.Question at) = Token.Sign m.Question at ∷ []
suffix_tokens (sx.Dot at) = Token.Sign m.Dot at ∷ []
suffix_tokens (sx.Square at) = Token.Sign m.OpenSquare at ∷ []
suffix_tokens (sx.Postfix op at) = Token.Sign (postfix_mark op) at ∷ []
suffix_tokens (sx.Instanceof at) = Token.Word w.Instanceof at ∷ []

abbrev suffix_text : Suffix × Tokens → Tokens
suffix_text x = suffix_tokens x.0 ++ x.1

thrice_only : (at second third : Position) (ts : Tokens) (s : Suffix × Tokens) → r.joined_thrice at second third ts ≡ Some s → Token.Sign m.GreaterJoined at ∷ Token.Sign m.GreaterJoined second ∷ Token.Sign m.GreaterJoined third ∷ ts ≡ suffix_text s
thrice_only at second third (Token.Sign m.Assign fourth ∷ rest) s e = ap suffix_text (some_same e)
thrice_only at second third _ s e = absurd (cc e)

twice_only : (at second : Position) (ts : Tokens) (s : Suffix × Tokens) → r.joined_twice at second ts ≡ Some s → Token.Sign m.GreaterJoined at ∷ Token.Sign m.GreaterJoined second ∷ ts ≡ suffix_text s
twice_only at second (Token.Sign m.Assign third ∷ rest) s e = ap suffix_text (some_same e)
twice_only at second (Token.Sign m.Greater third ∷ rest) s e = ap suffix_text (some_same e)
twice_only at second (Token.Sign m.GreaterJoined third ∷ rest) s e = thrice_only at second third rest s e
twice_only at second _ s e = absurd (cc e)

joined_only : (at : Position) (ts : Tokens) (s : Suffix × Tokens) → r.joined at ts ≡ Some s → Token.Sign m.GreaterJoined at ∷ ts ≡ suffix_text s
joined_only at (Token.Sign m.Greater second ∷ rest) s e = ap suffix_text (some_same e)
joined_only at (Token.Sign m.Assign second ∷ rest) s e = ap suffix_text (some_same e)
joined_only at (Token.Sign m.GreaterJoined second ∷ rest) s e = twice_only at second rest s e
joined_only at _ s e = absurd (cc e)

suffix_mark_only : (mark : Mark) (at : Position) (ts : Tokens) (s : Suffix × Tokens) → r.suffix_by mark at ts ≡ Some s → Token.Sign mark at ∷ ts ≡ suffix_text s
suffix_mark_only m.OrOr at rest s e = ap suffix_text (some_same e)
suffix_mark_only m.AndAnd at rest s e = ap suffix_text (some_same e)
suffix_mark_only m.Or at rest s e = ap suffix_text (some_same e)
suffix_mark_only m.Hat at rest s e = ap suffix_text (some_same e)
suffix_mark_only m.And at rest s e = ap suffix_text (some_same e)
suffix_mark_only m.Equal at rest s e = ap suffix_text (some_same e)
suffix_mark_only m.NotEqual at rest s e = ap suffix_text (some_same e)
suffix_mark_only m.Less at rest s e = ap suffix_text (some_same e)
suffix_mark_only m.LessEqual at rest s e = ap suffix_text (some_same e)
suffix_mark_only m.Greater at rest s e = ap suffix_text (some_same e)
suffix_mark_only m.ShiftLeft at rest s e = ap suffix_text (some_same e)
suffix_mark_only m.Plus at rest s e = ap suffix_text (some_same e)
suffix_mark_only m.Minus at rest s e = ap suffix_text (some_same e)
suffix_mark_only m.Star at rest s e = ap suffix_text (some_same e)
suffix_mark_only m.Slash at rest s e = ap suffix_text (some_same e)
suffix_mark_only m.Percent at rest s e = ap suffix_text (some_same e)
suffix_mark_only m.Assign at rest s e = ap suffix_text (some_same e)
suffix_mark_only m.PlusAssign at rest s e = ap suffix_text (some_same e)
suffix_mark_only m.MinusAssign at rest s e = ap suffix_text (some_same e)
suffix_mark_only m.StarAssign at rest s e = ap suffix_text (some_same e)
suffix_mark_only m.SlashAssign at rest s e = ap suffix_text (some_same e)
suffix_mark_only m.PercentAssign at rest s e = ap suffix_text (some_same e)
suffix_mark_only m.ShiftLeftAssign at rest s e = ap suffix_text (some_same e)
suffix_mark_only m.AndAssign at rest s e = ap suffix_text (some_same e)
suffix_mark_only m.OrAssign at rest s e = ap suffix_text (some_same e)
suffix_mark_only m.HatAssign at rest s e = ap suffix_text (some_same e)
suffix_mark_only m.PlusPlus at rest s e = ap suffix_text (some_same e)
suffix_mark_only m.MinusMinus at rest s e = ap suffix_text (some_same e)
suffix_mark_only m.Question at rest s e = ap suffix_text (some_same e)
suffix_mark_only m.Dot at rest s e = ap suffix_text (some_same e)
suffix_mark_only m.OpenSquare at rest s e = ap suffix_text (some_same e)
suffix_mark_only m.GreaterJoined at rest s e = joined_only at rest s e
suffix_mark_only _ at rest s e = absurd (cc e)

suffix_word_only : (word : Keyword) (at : Position) (rest : Tokens) (s : Suffix × Tokens) → r.suffix_word word at rest ≡ Some s → Token.Word word at ∷ rest ≡ suffix_text s
suffix_word_only w.Instanceof at rest s e = ap suffix_text (some_same e)
suffix_word_only _ at rest s e = absurd (cc e)

suffix_only : (ts : Tokens) (s : Suffix × Tokens) → r.suffix ts ≡ Some s → ts ≡ suffix_text s
unfolding r.suffix
suffix_only [] s e = absurd (cc e)
suffix_only (Token.Sign mark at ∷ rest) s e = suffix_mark_only mark at rest s e
suffix_only (Token.Word word at ∷ rest) s e = suffix_word_only word at rest s e
suffix_only (Token.Id n at ∷ rest) s e = absurd (cc e)
suffix_only (Token.Literal n at ∷ rest) s e = absurd (cc e)
suffix_only (Token.ArrowBody at body ∷ rest) s e = absurd (cc e)
suffix_only (Token.CloseBody at body ∷ rest) s e = absurd (cc e)

-- ---- one layer

pub record Takes (d l : ℕ) (ts : Tokens) (x : JExpr × Tokens) : Type 0 where
  pub same : ts ≡ tokens x.0 ++ x.1
  pub stands : Stands d l x.0

layer : (d l : ℕ) (x : JExpr-F JExpr) (ts rest : Tokens) → ts ≡ tokens_by (map-JExpr JExpr Tokens tokens x) ++ rest
    → l ≤ top_by x → stands_by d (TypeStands d) (TypedStands d) (Stands d) x → Takes (suc d) l ts (roll-JExpr x, rest)
unfolding Stands
layer d l x ts rest same h s = record {
  same = rw (spelled x) same;
  stands = (rw (top_roll x) h, subst (stands_by d (TypeStands d) (TypedStands d) (Stands d)) (sym (out-roll-JExpr x)) s);
}

-- `layer` at a variant, and then at what was read
at : (d l : ℕ) (x : JExpr-F JExpr) (y : JExpr) (z : JExpr × Tokens) (ts rest : Tokens) → roll-JExpr x ≡ y → Option.Some (y, rest) ≡ Some z
    → ts ≡ tokens_by (map-JExpr JExpr Tokens tokens x) ++ rest → l ≤ top_by x → stands_by d (TypeStands d) (TypedStands d) (Stands d) x → Takes (suc d) l ts z
at d l x y z ts rest made e same h s =
    let is : (roll-JExpr x, rest) ≡ z = ap (λ (w : JExpr). (w, rest)) made ∙ some_same e in
    subst (Takes (suc d) l ts) is (layer d l x ts rest same h s)

abbrev Sounds : ℕ → Type 0
Sounds d = (l : ℕ) (ts : Tokens) (x : JExpr × Tokens) → r.read d l ts ≡ Some x → (ts ≡ tokens x.0 ++ x.1) × Stands d l x.0

left_layer_primary : (x : JExpr-F JExpr) → is_left_by x ≡ true → primary_level ≤ top_by x
left_layer_primary (JExpr-F.Name n at) h = omega arith
left_layer_primary (JExpr-F.Field left dot n at) h = omega arith
left_layer_primary (JExpr-F.Element left lp index rp) h = omega arith
left_layer_primary _ h = absurd (cc h)

pub left_is_primary : (x : JExpr) → is_left x ≡ true → primary_level ≤ top x
unfolding is_left top
left_is_primary x h = left_layer_primary (out-JExpr x) h

module _ (d : ℕ) (sound : Sounds d) where
  paren_sound : (lp : Position) (ts : Tokens) (x : JExpr × Tokens) → r.paren (r.type_read d) (r.base_read (suc d)) (r.typed_read d) (r.read d) lp ts ≡ Some x → Takes (suc d) 0 (Token.Sign m.OpenRound lp ∷ ts) x
  unfolding r.paren
  paren_sound lp ts x h =
      let a = bind_some (r.read d any_level ts) _ _ h in
      let c = bind_some (r.close a.0.1) _ _ a.2 in
      let i = sound any_level ts a.0 a.1 in
      at d 0 (JExpr-F.Paren lp a.0.0 c.0.0) _ x _ c.0.1 (e.rolls-Paren lp a.0.0 c.0.0) c.2
      (ap (λ r. Token.Sign m.OpenRound lp ∷ r) (i.0 ∙ ap (λ r. tokens a.0.0 ++ r) (close_only _ c.0 c.1) ∙ sym (append_assoc (tokens a.0.0) _ c.0.1)))
      (omega arith) i.1

  -- a lambda after its parameters
  lambda_body_sound : (ps : JParams) (ts : Tokens) (x : JExpr × Tokens) → params_stand (TypedStands d) ps → r.lambda_body (r.type_read d) (r.base_read (suc d)) (r.typed_read d) (r.read d) ps ts ≡ Some x → Takes (suc d) 0 (params_tokens ps ++ ts) x
  unfolding r.lambda_body
  lambda_body_sound ps ts x good h =
      let a = bind_some (r.arrow ts) _ _ h in
      let b = bind_some (r.read d any_level a.0.1) _ _ a.2 in
      let i = sound any_level a.0.1 b.0 b.1 in
      at d 0 (JExpr-F.Lambda ps a.0.0 b.0.0) _ x _ b.0.1 (e.rolls-Lambda ps a.0.0 b.0.0) b.2
      (ap (λ r. params_tokens ps ++ r) (arrow_only ts a.0 a.1 ∙ ap (λ r. Token.Sign m.Arrow a.0.0 ∷ r) i.0) ∙ sym (append_assoc (params_tokens ps) _ b.0.1))
      (omega arith) (good, i.1)

  block_sound : (ps : JParams) (arrow : Position) (body : Span) (rest : Tokens) (x : JExpr × Tokens) → params_stand (TypedStands d) ps → depth x.0 ≤ suc d
      → Option.Some (e.LambdaBlock ps arrow body, rest) ≡ Some x → Takes (suc d) 0 (params_tokens ps ++ Token.ArrowBody arrow body ∷ rest) x
  block_sound ps arrow body rest x good fits h =
      let k : depth (e.LambdaBlock ps arrow body) ≤ suc d = subst (λ (z : JExpr × Tokens). depth z.0 ≤ suc d) (sym (some_same h)) fits in
      at d 0 (JExpr-F.LambdaBlock ps arrow body) _ x _ rest (e.rolls-LambdaBlock ps arrow body) h
      (sym (append_assoc (params_tokens ps) (Token.ArrowBody arrow body ∷ []) rest)) (omega arith) (good, omega (arith, depth_LambdaBlock ps arrow body))

  lambda_sound : (ps : JParams) (ts : Tokens) (x : JExpr × Tokens) → params_stand (TypedStands d) ps → depth x.0 ≤ suc d → r.lambda (r.type_read d) (r.base_read (suc d)) (r.typed_read d) (r.read d) ps ts ≡ Some x → Takes (suc d) 0 (params_tokens ps ++ ts) x
  unfolding r.lambda
  lambda_sound ps (Token.ArrowBody arrow body ∷ rest) x good fits h = block_sound ps arrow body rest x good fits h
  lambda_sound ps ts x good fits h = lambda_body_sound ps ts x good h

  abbrev Any : JParam → Type 0
  Any p = Unit {0}

  lambda_names_sound : (lp : Position) (ts : Tokens) (x : JExpr × Tokens) → depth x.0 ≤ suc d → r.lambda_names (r.type_read d) (r.base_read (suc d)) (r.typed_read d) (r.read d) lp ts ≡ Some x → Takes (suc d) 0 (Token.Sign m.OpenRound lp ∷ ts) x
  unfolding r.lambda_names
  lambda_names_sound lp ts x fits h =
      let a = bind_some (r.some_by r.comma r.ident ts) _ _ h in
      let c = bind_some (r.close a.0.1) _ _ a.2 in
      let all = lists.some_sound JParam r.ident param_tokens Any (λ ts x e. (ident_only ts x e, tt)) ts a.0 a.1 in
      let ps = params.Several lp a.0.0.0 a.0.0.1 c.0.0 in
      let text : Token.Sign m.OpenRound lp ∷ ts ≡ params_tokens ps ++ c.0.1 = ap (λ r. Token.Sign m.OpenRound lp ∷ r)
      (all.same ∙ ap (λ r. listed a.0.0.1 (map param_tokens a.0.0.0) ++ r) (close_only _ c.0 c.1) ∙ sym (append_assoc (listed a.0.0.1 (map param_tokens a.0.0.0)) _ c.0.1)) in
      subst (λ ts. Takes (suc d) 0 ts x) (sym text) (lambda_sound ps c.0.1 x (all.full, all.between) fits c.2)

  typed_from_sound : (ts : Tokens) (x : r.Listed JTypedParam × Tokens) → r.typed_from (r.type_read d) (r.base_read (suc d)) (r.typed_read d) (r.read d) ts ≡ Some x
      → (ts ≡ listed x.0.1 (map typed_tokens x.0.0) ++ x.1) × AreBetween x.0.1 x.0.0 × AllByRecursion (TypedStands d) x.0.0
  unfolding r.typed_from
  typed_from_sound ts x h = elim (maybe_is (r.close ts) _ _ _ h) [
    | inl a ↦ (let all = lists.some_sound JTypedParam (r.typed_read d) typed_tokens (TypedStands d) (typed_sound d) ts x a.1 in (all.same, all.between, all.all))
    | inr a ↦ (let P : r.Listed JTypedParam × Tokens → Type 0 = λ x. (ts ≡ listed x.0.1 (map typed_tokens x.0.0) ++ x.1) × AreBetween x.0.1 x.0.0 × AllByRecursion (TypedStands d) x.0.0 in
        subst P (some_same a.2) (refl, refl, tt))
  ]

  lambda_typed_sound : (lp : Position) (ts : Tokens) (x : JExpr × Tokens) → depth x.0 ≤ suc d → r.lambda_typed (r.type_read d) (r.base_read (suc d)) (r.typed_read d) (r.read d) lp ts ≡ Some x → Takes (suc d) 0 (Token.Sign m.OpenRound lp ∷ ts) x
  unfolding r.lambda_typed
  lambda_typed_sound lp ts x fits h =
      let a = bind_some (r.typed_from (r.type_read d) (r.base_read (suc d)) (r.typed_read d) (r.read d) ts) _ _ h in
      let c = bind_some (r.close a.0.1) _ _ a.2 in
      let i = typed_from_sound ts a.0 a.1 in
      let ps = params.Typed lp a.0.0.0 a.0.0.1 c.0.0 in
      let text : Token.Sign m.OpenRound lp ∷ ts ≡ params_tokens ps ++ c.0.1 = ap (λ r. Token.Sign m.OpenRound lp ∷ r)
      (i.0 ∙ ap (λ r. listed a.0.0.1 (map typed_tokens a.0.0.0) ++ r) (close_only _ c.0 c.1) ∙ sym (append_assoc (listed a.0.0.1 (map typed_tokens a.0.0.0)) _ c.0.1)) in
      subst (λ ts. Takes (suc d) 0 ts x) (sym text) (lambda_sound ps c.0.1 x (i.1, i.2) fits c.2)

  lambda_of_sound : (lp : Position) (ts : Tokens) (x : JExpr × Tokens) → depth x.0 ≤ suc d → r.lambda_of (r.type_read d) (r.base_read (suc d)) (r.typed_read d) (r.read d) lp ts ≡ Some x → Takes (suc d) 0 (Token.Sign m.OpenRound lp ∷ ts) x
  unfolding r.lambda_of
  lambda_of_sound lp ts x fits h = elim (cond_is (r.begins_names ts) (r.lambda_names (r.type_read d) (r.base_read (suc d)) (r.typed_read d) (r.read d) lp ts) (r.lambda_typed (r.type_read d) (r.base_read (suc d)) (r.typed_read d) (r.read d) lp ts) (Some x) h) [
    | inl a ↦ lambda_names_sound lp ts x fits a.1
    | inr a ↦ lambda_typed_sound lp ts x fits a.1
  ]

  cast_fits : (p b : Bool) (text : Tokens) → (p || not b) ≡ true → begins_sign text ≡ b → may_cast p text
  cast_fits true b text h e = tt
  cast_fits false true text h e = absurd (cc h)
  cast_fits false false text h e = e

  cast_sound : (lp : Position) (ts : Tokens) (x : JExpr × Tokens) → r.cast (r.type_read d) (r.base_read (suc d)) (r.typed_read d) (r.read d) lp ts ≡ Some x → Takes (suc d) 0 (Token.Sign m.OpenRound lp ∷ ts) x
  unfolding r.cast r.cast_of
  cast_sound lp ts x h =
      let a = bind_some (r.type_read d ts) _ _ h in
      let c = bind_some (r.close a.0.1) _ _ a.2 in
      let g = guard_some _ _ _ c.2 in
      let b = bind_some (r.read d unary_level c.0.1) _ _ g.1 in
      let i = sound unary_level c.0.1 b.0 b.1 in
      let k = type_sound d ts a.0 a.1 in
      at d 0 (JExpr-F.Cast lp a.0.0 c.0.0 b.0.0) _ x _ b.0.1 (e.rolls-Cast lp a.0.0 c.0.0 b.0.0) b.2
      (ap (λ r. Token.Sign m.OpenRound lp ∷ r) (k.0 ∙ ap (λ r. type_tokens a.0.0 ++ r) (close_only _ c.0 c.1 ∙ ap (λ r. Token.Sign m.CloseRound c.0.0 ∷ r) i.0) ∙ sym (append_assoc (type_tokens a.0.0) _ b.0.1)))
      (omega arith) (k.1, i.1, cast_fits _ _ _ g.0 (sym (sign_same (tokens b.0.0) b.0.1 (first d unary_level b.0.0 (omega arith) i.1)) ∙ ap begins_sign (sym i.0)))

  abbrev group_else : Position → Reader JExpr
  group_else lp ts = if r.is_cast ts then r.cast (r.type_read d) (r.base_read (suc d)) (r.typed_read d) (r.read d) lp ts else r.paren (r.type_read d) (r.base_read (suc d)) (r.typed_read d) (r.read d) lp ts

  else_sound : (lp : Position) (ts : Tokens) (x : JExpr × Tokens) → group_else lp ts ≡ Some x → Takes (suc d) 0 (Token.Sign m.OpenRound lp ∷ ts) x
  else_sound lp ts x h = elim (cond_is (r.is_cast ts) (r.cast (r.type_read d) (r.base_read (suc d)) (r.typed_read d) (r.read d) lp ts) (r.paren (r.type_read d) (r.base_read (suc d)) (r.typed_read d) (r.read d) lp ts) (Some x) h) [
    | inl b ↦ cast_sound lp ts x b.1
    | inr b ↦ paren_sound lp ts x b.1
  ]

  group_sound : (lp : Position) (ts : Tokens) (x : JExpr × Tokens) → depth x.0 ≤ suc d → r.group (r.type_read d) (r.base_read (suc d)) (r.typed_read d) (r.read d) lp ts ≡ Some x → Takes (suc d) 0 (Token.Sign m.OpenRound lp ∷ ts) x
  unfolding r.group
  group_sound lp ts x fits h = elim (cond_is (r.begins_arrow (r.after_close 0 ts)) (r.lambda_of (r.type_read d) (r.base_read (suc d)) (r.typed_read d) (r.read d) lp ts) (group_else lp ts) (Some x) h) [
    | inl a ↦ lambda_of_sound lp ts x fits a.1
    | inr a ↦ else_sound lp ts x a.1
  ]

  pub args_sound : (ts : Tokens) (x : r.Listed JExpr × Tokens) → r.args_from (r.type_read d) (r.base_read (suc d)) (r.typed_read d) (r.read d) ts ≡ Some x
      → (ts ≡ listed x.0.1 (map tokens x.0.0) ++ x.1) × AreBetween x.0.1 x.0.0 × AllByRecursion (Stands d any_level) x.0.0
  unfolding r.args_from
  args_sound ts x h = elim (maybe_is (r.args_end ts) _ _ _ h) [
    | inl a ↦ (let all = lists.some_sound JExpr (r.read d any_level) tokens (Stands d any_level) (sound any_level) ts x a.1 in (all.same, all.between, all.all))
    | inr a ↦ (let P : r.Listed JExpr × Tokens → Type 0 = λ x. (ts ≡ listed x.0.1 (map tokens x.0.0) ++ x.1) × AreBetween x.0.1 x.0.0 × AllByRecursion (Stands d any_level) x.0.0 in
        subst P (some_same a.2) (refl, refl, tt))
  ]

  call_sound : (n : List ℕ) (id lp : Position) (ts : Tokens) (x : JExpr × Tokens) → r.call (r.type_read d) (r.base_read (suc d)) (r.typed_read d) (r.read d) n id lp ts ≡ Some x → Takes (suc d) 0 (Token.Id n id ∷ Token.Sign m.OpenRound lp ∷ ts) x
  unfolding r.call
  call_sound n id lp ts x h =
      let a = bind_some (r.args_from (r.type_read d) (r.base_read (suc d)) (r.typed_read d) (r.read d) ts) _ _ h in
      let c = bind_some (r.close a.0.1) _ _ a.2 in
      let i = args_sound ts a.0 a.1 in
      at d 0 (JExpr-F.Call n id lp a.0.0.0 a.0.0.1 c.0.0) _ x _ c.0.1 (e.rolls-Call n id lp a.0.0.0 a.0.0.1 c.0.0) c.2
      (ap (λ r. Token.Id n id ∷ Token.Sign m.OpenRound lp ∷ r)
      (i.0 ∙ ap (λ r. listed a.0.0.1 (map tokens a.0.0.0) ++ r) (close_only _ c.0 c.1) ∙ sym (append_assoc (listed a.0.0.1 (map tokens a.0.0.0)) _ c.0.1)))
      (omega arith) (i.1, i.2)

  super_args_sound : (above dot : Position) (n : JParam) (lp : Position) (ts : Tokens) (x : JExpr × Tokens) → r.super_args (r.type_read d) (r.base_read (suc d)) (r.typed_read d) (r.read d) above dot n lp ts ≡ Some x
      → Takes (suc d) 0 (Token.Word w.Super above ∷ Token.Sign m.Dot dot ∷ Token.Id n.name n.at ∷ Token.Sign m.OpenRound lp ∷ ts) x
  unfolding r.super_args
  super_args_sound above dot n lp ts x h =
      let a = bind_some (r.args_from (r.type_read d) (r.base_read (suc d)) (r.typed_read d) (r.read d) ts) _ _ h in
      let c = bind_some (r.close a.0.1) _ _ a.2 in
      let i = args_sound ts a.0 a.1 in
      at d 0 (JExpr-F.SuperCall above dot n.name n.at lp a.0.0.0 a.0.0.1 c.0.0) _ x _ c.0.1 (e.rolls-SuperCall above dot n.name n.at lp a.0.0.0 a.0.0.1 c.0.0) c.2
      (ap (λ r. Token.Word w.Super above ∷ Token.Sign m.Dot dot ∷ Token.Id n.name n.at ∷ Token.Sign m.OpenRound lp ∷ r)
      (i.0 ∙ ap (λ r. listed a.0.0.1 (map tokens a.0.0.0) ++ r) (close_only _ c.0 c.1) ∙ sym (append_assoc (listed a.0.0.1 (map tokens a.0.0.0)) _ c.0.1)))
      (omega arith) (i.1, i.2)

  super_sound : (above : Position) (ts : Tokens) (x : JExpr × Tokens) → r.super_call (r.type_read d) (r.base_read (suc d)) (r.typed_read d) (r.read d) above ts ≡ Some x → Takes (suc d) 0 (Token.Word w.Super above ∷ ts) x
  unfolding r.super_call
  super_sound above ts x h =
      let a = bind_some (r.dot ts) _ _ h in
      let b = bind_some (r.ident a.0.1) _ _ a.2 in
      let c = bind_some (r.open_round b.0.1) _ _ b.2 in
      let text : Token.Word w.Super above ∷ ts ≡ Token.Word w.Super above ∷ Token.Sign m.Dot a.0.0 ∷ Token.Id b.0.0.name b.0.0.at ∷ Token.Sign m.OpenRound c.0.0 ∷ c.0.1 =
      ap (λ r. Token.Word w.Super above ∷ r) (dot_only ts a.0 a.1 ∙ ap (λ r. Token.Sign m.Dot a.0.0 ∷ r) (ident_only _ b.0 b.1 ∙ ap (λ r. Token.Id b.0.0.name b.0.0.at ∷ r) (open_round_only _ c.0 c.1))) in
      subst (λ ts. Takes (suc d) 0 ts x) (sym text) (super_args_sound above a.0.0 b.0.0 c.0.0 c.0.1 x c.2)

  -- ---- what is created

  new_args_sound : (id : Position) (made : JCreated) (lp : Position) (ts : Tokens) (x : JExpr × Tokens) → (created_depth made ≤ d → created_stands d made) → depth x.0 ≤ suc d
      → r.new_args (r.type_read d) (r.base_read (suc d)) (r.typed_read d) (r.read d) id made lp ts ≡ Some x → Takes (suc d) 0 (Token.Word w.New id ∷ (created_tokens made ++ Token.Sign m.OpenRound lp ∷ ts)) x
  unfolding r.new_args
  new_args_sound id made lp ts x good fits h =
      let a = bind_some (r.args_from (r.type_read d) (r.base_read (suc d)) (r.typed_read d) (r.read d) ts) _ _ h in
      let c = bind_some (r.args_end a.0.1) _ _ a.2 in
      let i = args_sound ts a.0 a.1 in
      let k : depth (e.New id made lp a.0.0.0 a.0.0.1 c.0.0.0 c.0.0.1) ≤ suc d = subst (λ (z : JExpr × Tokens). depth z.0 ≤ suc d) (sym (some_same c.2)) fits in
      at d 0 (JExpr-F.New id made lp a.0.0.0 a.0.0.1 c.0.0.0 c.0.0.1) _ x _ c.0.1 (e.rolls-New id made lp a.0.0.0 a.0.0.1 c.0.0.0 c.0.0.1) c.2
      (ap (λ r. Token.Word w.New id ∷ r)
      (ap (λ r. created_tokens made ++ Token.Sign m.OpenRound lp ∷ r)
      (i.0 ∙ ap (λ r. listed a.0.0.1 (map tokens a.0.0.0) ++ r) (args_end_only _ c.0 c.1) ∙ sym (append_assoc (listed a.0.0.1 (map tokens a.0.0.0)) _ c.0.1))
      ∙ sym (append_assoc (created_tokens made) _ c.0.1)))
      (omega arith) (good (omega (arith, depth_New id made lp a.0.0.0 a.0.0.1 c.0.0.0 c.0.0.1)), i.1, i.2)

  new_inferred_sound : (id : Position) (ts : Tokens) (x : JExpr × Tokens) → depth x.0 ≤ suc d → r.new_inferred (r.type_read d) (r.base_read (suc d)) (r.typed_read d) (r.read d) id ts ≡ Some x → Takes (suc d) 0 (Token.Word w.New id ∷ ts) x
  unfolding r.new_inferred
  new_inferred_sound id ts x fits h =
      let a = bind_some (r.inferred ts) _ _ h in
      let c = bind_some (r.open_round a.0.1) _ _ a.2 in
      let i = inferred_only ts a.0 a.1 in
      let text : Token.Word w.New id ∷ ts ≡ Token.Word w.New id ∷ (created_tokens a.0.0 ++ Token.Sign m.OpenRound c.0.0 ∷ c.0.1) =
      ap (λ r. Token.Word w.New id ∷ r) (i.0 ∙ ap (λ r. created_tokens a.0.0 ++ r) (open_round_only _ c.0 c.1)) in
      subst (λ ts. Takes (suc d) 0 ts x) (sym text) (new_args_sound id a.0.0 c.0.0 c.0.1 x (i.1 d) fits c.2)

  new_sized_sound : (id : Position) (of : JType) (lb : Position) (ts : Tokens) (x : JExpr × Tokens) → TypeStands (suc d) of → is_array of ≡ false
      → r.new_sized (r.type_read d) (r.base_read (suc d)) (r.typed_read d) (r.read d) id of lb ts ≡ Some x → Takes (suc d) 0 (Token.Word w.New id ∷ (type_tokens of ++ Token.Sign m.OpenSquare lb ∷ ts)) x
  unfolding r.new_sized
  new_sized_sound id of lb ts x good flat h =
      let a = bind_some (r.read d any_level ts) _ _ h in
      let c = bind_some (r.close_square a.0.1) _ _ a.2 in
      let i = sound any_level ts a.0 a.1 in
      let more = r.brackets c.0.1 in
      at d 0 (JExpr-F.NewArray id of lb a.0.0 c.0.0 more.0) _ x _ more.1 (e.rolls-NewArray id of lb a.0.0 c.0.0 more.0) c.2
      (ap (λ r. Token.Word w.New id ∷ r)
      (ap (λ r. type_tokens of ++ Token.Sign m.OpenSquare lb ∷ r)
      (i.0 ∙ ap (λ r. tokens a.0.0 ++ r) (close_square_only _ c.0 c.1 ∙ ap (λ r. Token.Sign m.CloseSquare c.0.0 ∷ r) (brackets_sound c.0.1)) ∙ sym (append_assoc (tokens a.0.0) _ more.1))
      ∙ sym (append_assoc (type_tokens of) _ more.1)))
      (omega arith) (good, flat, i.1)

  inits_sound : (ts : Tokens) (x : r.Listed JExpr × Tokens) → r.inits (r.type_read d) (r.base_read (suc d)) (r.typed_read d) (r.read d) ts ≡ Some x
      → (ts ≡ listed x.0.1 (map tokens x.0.0) ++ x.1) × AreBetween x.0.1 x.0.0 × AllByRecursion (Stands d init_level) x.0.0
  unfolding r.inits
  inits_sound ts x h = elim (maybe_is (r.braces_end ts) _ _ _ h) [
    | inl a ↦ (let all = lists.inner_sound JExpr (r.read d init_level) tokens (Stands d init_level) (sound init_level) ts x a.1 in (all.same, all.between, all.all))
    | inr a ↦ (let P : r.Listed JExpr × Tokens → Type 0 = λ x. (ts ≡ listed x.0.1 (map tokens x.0.0) ++ x.1) × AreBetween x.0.1 x.0.0 × AllByRecursion (Stands d init_level) x.0.0 in
        subst P (some_same a.2) (refl, refl, tt))
  ]

  three : (a b c e : Tokens) → (a ++ (b ++ c)) ++ e ≡ a ++ (b ++ (c ++ e))
  three a b c e = append_assoc a (b ++ c) e ∙ ap (λ r. a ++ r) (append_assoc b c e)

  braces_text : (lc : Position) (ts rest : Tokens) (texts : List Tokens) (ps : List Position) (more : Option Position) (rc : Position) (us : Tokens)
      → ts ≡ listed ps texts ++ us → us ≡ trailing more ++ Token.Sign m.CloseCurly rc ∷ rest → Token.Sign m.OpenCurly lc ∷ ts ≡ braces_tokens lc texts ps more rc ++ rest
  braces_text lc ts rest texts ps more rc us items ends =
      ap (λ r. Token.Sign m.OpenCurly lc ∷ r) (items ∙ ap (λ r. listed ps texts ++ r) ends ∙ sym (three (listed ps texts) (trailing more) (Token.Sign m.CloseCurly rc ∷ []) rest))

  new_filled_sound : (id : Position) (of : JType) (pairs : List JBrackets) (ts : Tokens) (x : JExpr × Tokens) → TypeStands (suc d) of → is_array of ≡ false → 1 ≤ length pairs
      → r.new_filled (r.type_read d) (r.base_read (suc d)) (r.typed_read d) (r.read d) id of pairs ts ≡ Some x → Takes (suc d) 0 (Token.Word w.New id ∷ (type_tokens of ++ (brackets_tokens pairs ++ ts))) x
  unfolding r.new_filled
  new_filled_sound id of pairs ts x good flat some h =
      let o = bind_some (r.open_curly ts) _ _ h in
      let a = bind_some (r.inits (r.type_read d) (r.base_read (suc d)) (r.typed_read d) (r.read d) o.0.1) _ _ o.2 in
      let c = bind_some (r.braces_end a.0.1) _ _ a.2 in
      let i = inits_sound o.0.1 a.0 a.1 in
      let values = braces_tokens o.0.0 (map tokens a.0.0.0) a.0.0.1 c.0.0.0 c.0.0.1 in
      at d 0 (JExpr-F.NewFilled id of pairs o.0.0 a.0.0.0 a.0.0.1 c.0.0.0 c.0.0.1) _ x _ c.0.1 (e.rolls-NewFilled id of pairs o.0.0 a.0.0.0 a.0.0.1 c.0.0.0 c.0.0.1) c.2
      (ap (λ r. Token.Word w.New id ∷ r)
      (ap (λ r. type_tokens of ++ (brackets_tokens pairs ++ r))
      (open_curly_only ts o.0 o.1 ∙ braces_text o.0.0 o.0.1 c.0.1 (map tokens a.0.0.0) a.0.0.1 c.0.0.0 c.0.0.1 a.0.1 i.0 (braces_end_only _ c.0 c.1))
      ∙ sym (three (type_tokens of) (brackets_tokens pairs) values c.0.1)))
      (omega arith) (good, flat, some, i.1, i.2)

  new_array_sound : (id : Position) (of : JType) (lb : Position) (ts : Tokens) (x : JExpr × Tokens) → TypeStands (suc d) of → is_array of ≡ false
      → r.new_array (r.type_read d) (r.base_read (suc d)) (r.typed_read d) (r.read d) id of lb ts ≡ Some x → Takes (suc d) 0 (Token.Word w.New id ∷ (type_tokens of ++ Token.Sign m.OpenSquare lb ∷ ts)) x
  new_array_sound id of lb (Token.Sign m.CloseSquare rb ∷ rest) x good flat h =
      subst (λ us. Takes (suc d) 0 (Token.Word w.New id ∷ (type_tokens of ++ Token.Sign m.OpenSquare lb ∷ Token.Sign m.CloseSquare rb ∷ us)) x) (sym (brackets_sound rest))
      (new_filled_sound id of (record { opens = lb; closes = rb } ∷ (r.brackets rest).0) (r.brackets rest).1 x good flat (omega arith) h)
  new_array_sound id of lb ts x good flat h = new_sized_sound id of lb ts x good flat h

  new_of_sound : (id : Position) (of : JType) (ts : Tokens) (x : JExpr × Tokens) → TypeStands (suc d) of → is_array of ≡ false → depth x.0 ≤ suc d
      → r.new_of (r.type_read d) (r.base_read (suc d)) (r.typed_read d) (r.read d) id of ts ≡ Some x → Takes (suc d) 0 (Token.Word w.New id ∷ (type_tokens of ++ ts)) x
  new_of_sound id of (Token.Sign m.OpenRound lp ∷ rest) x good flat fits h =
      let g = guard_some (is_class of) (r.new_args (r.type_read d) (r.base_read (suc d)) (r.typed_read d) (r.read d) id (created.Type of) lp rest) x h in
      new_args_sound id (created.Type of) lp rest x (λ k. (good, g.0)) fits g.1
  new_of_sound id of (Token.Sign m.OpenSquare lb ∷ rest) x good flat fits h = new_array_sound id of lb rest x good flat h
  new_of_sound id of _ x good flat fits h = absurd (cc h)

  new_base_sound : (id : Position) (ts : Tokens) (x : JExpr × Tokens) → depth x.0 ≤ suc d → (r.base_read (suc d) ts >>= λ x. r.new_of (r.type_read d) (r.base_read (suc d)) (r.typed_read d) (r.read d) id x.0 x.1) ≡ Some x → Takes (suc d) 0 (Token.Word w.New id ∷ ts) x
  new_base_sound id ts x fits h =
      let a = bind_some (r.base_read (suc d) ts) _ _ h in
      let k = base_sound (suc d) ts a.0 a.1 in
      subst (λ us. Takes (suc d) 0 (Token.Word w.New id ∷ us) x) (sym k.0) (new_of_sound id a.0.0 a.0.1 x k.1 k.2 fits a.2)

  creation_sound : (id : Position) (ts : Tokens) (x : JExpr × Tokens) → depth x.0 ≤ suc d → r.creation (r.type_read d) (r.base_read (suc d)) (r.typed_read d) (r.read d) id ts ≡ Some x → Takes (suc d) 0 (Token.Word w.New id ∷ ts) x
  unfolding r.creation
  creation_sound id ts x fits h = elim (cond_is (r.begins_inferred ts) (r.new_inferred (r.type_read d) (r.base_read (suc d)) (r.typed_read d) (r.read d) id ts) (r.base_read (suc d) ts >>= λ x. r.new_of (r.type_read d) (r.base_read (suc d)) (r.typed_read d) (r.read d) id x.0 x.1) (Some x) h) [
    | inl a ↦ new_inferred_sound id ts x fits a.1
    | inr a ↦ new_base_sound id ts x fits a.1
  ]

  braces_sound : (lc : Position) (ts : Tokens) (x : JExpr × Tokens) → r.braces (r.type_read d) (r.base_read (suc d)) (r.typed_read d) (r.read d) lc ts ≡ Some x → Takes (suc d) 0 (Token.Sign m.OpenCurly lc ∷ ts) x
  unfolding r.braces
  braces_sound lc ts x h =
      let a = bind_some (r.inits (r.type_read d) (r.base_read (suc d)) (r.typed_read d) (r.read d) ts) _ _ h in
      let c = bind_some (r.braces_end a.0.1) _ _ a.2 in
      let i = inits_sound ts a.0 a.1 in
      at d 0 (JExpr-F.Braces lc a.0.0.0 a.0.0.1 c.0.0.0 c.0.0.1) _ x _ c.0.1 (e.rolls-Braces lc a.0.0.0 a.0.0.1 c.0.0.0 c.0.0.1) c.2
      (braces_text lc ts c.0.1 (map tokens a.0.0.0) a.0.0.1 c.0.0.0 c.0.0.1 a.0.1 i.0 (braces_end_only _ c.0 c.1))
      (omega arith) (i.1, i.2)

  -- ---- operands

  worded_sound : (word : Keyword) (id : Position) (ts : Tokens) (x : JExpr × Tokens) → depth x.0 ≤ suc d → r.worded (r.type_read d) (r.base_read (suc d)) (r.typed_read d) (r.read d) word id ts ≡ Some x → Takes (suc d) 0 (Token.Word word id ∷ ts) x
  worded_sound w.This id ts x fits h = at d 0 (JExpr-F.This id) _ x _ ts (e.rolls-This id) h refl (omega arith) tt
  worded_sound w.Super id ts x fits h = super_sound id ts x h
  worded_sound w.New id ts x fits h = creation_sound id ts x fits h
  worded_sound _ id ts x fits h = absurd (cc h)

  named_sound : (n : List ℕ) (id : Position) (ts : Tokens) (x : JExpr × Tokens) → depth x.0 ≤ suc d → r.named (r.type_read d) (r.base_read (suc d)) (r.typed_read d) (r.read d) n id ts ≡ Some x → Takes (suc d) 0 (Token.Id n id ∷ ts) x
  unfolding r.named
  named_sound n id (Token.Sign m.OpenRound lp ∷ rest) x fits h = call_sound n id lp rest x h
  named_sound n id (Token.Sign m.Arrow a ∷ rest) x fits h = lambda_sound (params.One (record { name = n; at = id })) (Token.Sign m.Arrow a ∷ rest) x tt fits h
  named_sound n id (Token.ArrowBody a b ∷ rest) x fits h = lambda_sound (params.One (record { name = n; at = id })) (Token.ArrowBody a b ∷ rest) x tt fits h
  named_sound n id ts x fits h = at d 0 (JExpr-F.Name n id) _ x _ ts (e.rolls-Name n id) h refl (omega arith) tt

  prefixed_sound : (mark : Mark) (o : Option PrefixOp) (p : Position) (ts : Tokens) (x : JExpr × Tokens) → r.prefix_by mark ≡ o
      → r.prefixed (r.type_read d) (r.base_read (suc d)) (r.typed_read d) (r.read d) o p ts ≡ Some x → Takes (suc d) 0 (Token.Sign mark p ∷ ts) x
  unfolding r.prefixed
  prefixed_sound mark None p ts x is h = absurd (cc h)
  prefixed_sound mark (Some op) p ts x is h =
      let b = bind_some (r.read d unary_level ts) _ _ h in
      let i = sound unary_level ts b.0 b.1 in
      at d 0 (JExpr-F.Prefix op p b.0.0) _ x _ b.0.1 (e.rolls-Prefix op p b.0.0) b.2
      (rw (prefix_only mark op is) (ap (λ r. Token.Sign (prefix_mark op) p ∷ r) i.0)) (omega arith) i.1

  least_sound : (minus : Position) (literal : JLiteral) (p : Position) (rest : Tokens) (x : JExpr × Tokens) → is_least literal ≡ true → depth x.0 ≤ suc d
      → Option.Some (e.MinusLeast minus literal p, rest) ≡ Some x → Takes (suc d) 0 (Token.Sign m.Minus minus ∷ Token.Literal literal p ∷ rest) x
  least_sound minus literal p rest x least fits h =
      let k : depth (e.MinusLeast minus literal p) ≤ suc d = subst (λ (z : JExpr × Tokens). depth z.0 ≤ suc d) (sym (some_same h)) fits in
      at d 0 (JExpr-F.MinusLeast minus literal p) _ x _ rest (e.rolls-MinusLeast minus literal p) h refl (omega arith) (least, omega (arith, depth_MinusLeast minus literal p))

  minus_sound : (minus : Position) (ts : Tokens) (x : JExpr × Tokens) → depth x.0 ≤ suc d → r.minus (r.type_read d) (r.base_read (suc d)) (r.typed_read d) (r.read d) minus ts ≡ Some x → Takes (suc d) 0 (Token.Sign m.Minus minus ∷ ts) x
  minus_sound minus (Token.Literal literal p ∷ rest) x fits h =
      elim (cond_is (is_least literal) (Option.Some (e.MinusLeast minus literal p, rest)) (r.prefixed (r.type_read d) (r.base_read (suc d)) (r.typed_read d) (r.read d) (Some prefix.Minus) minus (Token.Literal literal p ∷ rest)) (Some x) h) [
        | inl a ↦ least_sound minus literal p rest x a.0 fits a.1
        | inr a ↦ prefixed_sound m.Minus (Some prefix.Minus) minus (Token.Literal literal p ∷ rest) x refl a.1
      ]
  minus_sound minus ts x fits h = prefixed_sound m.Minus (Some prefix.Minus) minus ts x refl h

  literal_sound : (literal : JLiteral) (p : Position) (rest : Tokens) (x : JExpr × Tokens)
      → (if is_least literal then None else Option.Some (e.Literal literal p, rest)) ≡ Some x → Takes (suc d) 0 (Token.Literal literal p ∷ rest) x
  literal_sound literal p rest x h = elim (cond_is (is_least literal) None (Option.Some (e.Literal literal p, rest)) (Some x) h) [
    | inl a ↦ absurd (cc a.1)
    | inr a ↦ at d 0 (JExpr-F.Literal literal p) _ x _ rest (e.rolls-Literal literal p) a.1 refl (omega arith) a.0
  ]

  marked_sound : (mark : Mark) (p : Position) (ts : Tokens) (x : JExpr × Tokens) → depth x.0 ≤ suc d → r.marked (r.type_read d) (r.base_read (suc d)) (r.typed_read d) (r.read d) mark p ts ≡ Some x → Takes (suc d) 0 (Token.Sign mark p ∷ ts) x
  marked_sound m.OpenRound p ts x fits h = group_sound p ts x fits h
  marked_sound m.OpenCurly p ts x fits h = braces_sound p ts x h
  marked_sound m.Minus p ts x fits h = minus_sound p ts x fits h
  marked_sound mark p ts x fits h = prefixed_sound mark (r.prefix_by mark) p ts x refl h

  operand_sound : (ts : Tokens) (x : JExpr × Tokens) → depth x.0 ≤ suc d → r.operand (r.type_read d) (r.base_read (suc d)) (r.typed_read d) (r.read d) ts ≡ Some x → Takes (suc d) 0 ts x
  unfolding r.operand
  operand_sound [] x fits h = absurd (cc h)
  operand_sound (Token.Id n id ∷ rest) x fits h = named_sound n id rest x fits h
  operand_sound (Token.Literal literal p ∷ rest) x fits h = literal_sound literal p rest x h
  operand_sound (Token.Word word id ∷ rest) x fits h = worded_sound word id rest x fits h
  operand_sound (Token.Sign mark p ∷ rest) x fits h = marked_sound mark p rest x fits h
  operand_sound (Token.ArrowBody p body ∷ rest) x fits h = absurd (cc h)
  operand_sound (Token.CloseBody p body ∷ rest) x fits h = absurd (cc h)

  -- the operand, and what a suffix makes of it
  abbrev Goes_on : Suffix → JExpr → Tokens → JExpr × Tokens → Type 0
  Goes_on s left ts x = Takes (suc d) (r.strength s) (tokens left ++ (suffix_tokens s ++ ts)) x

  choice_sound : (left : JExpr) (question : Position) (ts : Tokens) (x : JExpr × Tokens) → Stands d or_level left
      → r.choice (r.type_read d) (r.base_read (suc d)) (r.typed_read d) (r.read d) left question ts ≡ Some x → Takes (suc d) cond_level (tokens left ++ Token.Sign m.Question question ∷ ts) x
  unfolding r.choice
  choice_sound left question ts x s h =
      let a = bind_some (r.read d any_level ts) _ _ h in
      let c = bind_some (r.colon a.0.1) _ _ a.2 in
      let b = bind_some (r.read d else_level c.0.1) _ _ c.2 in
      let i = sound any_level ts a.0 a.1 in
      let k = sound else_level c.0.1 b.0 b.1 in
      at d cond_level (JExpr-F.Conditional left question a.0.0 c.0.0 b.0.0) _ x _ b.0.1 (e.rolls-Conditional left question a.0.0 c.0.0 b.0.0) b.2
      (ap (λ r. tokens left ++ Token.Sign m.Question question ∷ r)
      (i.0 ∙ ap (λ r. tokens a.0.0 ++ r) (colon_only _ c.0 c.1 ∙ ap (λ r. Token.Sign m.Colon c.0.0 ∷ r) k.0)
      ∙ sym (append_assoc (tokens a.0.0) (Token.Sign m.Colon c.0.0 ∷ tokens b.0.0) b.0.1))
      ∙ sym (append_assoc (tokens left) _ b.0.1))
      (omega arith) (s, i.1, k.1)

  method_sound : (left : JExpr) (dot : Position) (n : JParam) (lp : Position) (ts : Tokens) (x : JExpr × Tokens) → Stands d primary_level left
      → r.method (r.type_read d) (r.base_read (suc d)) (r.typed_read d) (r.read d) left dot n lp ts ≡ Some x → Takes (suc d) primary_level (tokens left ++ Token.Sign m.Dot dot ∷ Token.Id n.name n.at ∷ Token.Sign m.OpenRound lp ∷ ts) x
  unfolding r.method
  method_sound left dot n lp ts x s h =
      let a = bind_some (r.args_from (r.type_read d) (r.base_read (suc d)) (r.typed_read d) (r.read d) ts) _ _ h in
      let c = bind_some (r.close a.0.1) _ _ a.2 in
      let i = args_sound ts a.0 a.1 in
      at d primary_level (JExpr-F.Method left dot n.name n.at lp a.0.0.0 a.0.0.1 c.0.0) _ x _ c.0.1 (e.rolls-Method left dot n.name n.at lp a.0.0.0 a.0.0.1 c.0.0) c.2
      (ap (λ r. tokens left ++ Token.Sign m.Dot dot ∷ Token.Id n.name n.at ∷ Token.Sign m.OpenRound lp ∷ r)
      (i.0 ∙ ap (λ r. listed a.0.0.1 (map tokens a.0.0.0) ++ r) (close_only _ c.0 c.1) ∙ sym (append_assoc (listed a.0.0.1 (map tokens a.0.0.0)) _ c.0.1))
      ∙ sym (append_assoc (tokens left) _ c.0.1))
      (omega arith) (s, i.1, i.2)

  field_sound : (left : JExpr) (dot : Position) (n : JParam) (ts : Tokens) (x : JExpr × Tokens) → Stands d primary_level left
      → Option.Some (e.Field left dot n.name n.at, ts) ≡ Some x → Takes (suc d) primary_level (tokens left ++ Token.Sign m.Dot dot ∷ Token.Id n.name n.at ∷ ts) x
  field_sound left dot n ts x s h =
      at d primary_level (JExpr-F.Field left dot n.name n.at) _ x _ ts (e.rolls-Field left dot n.name n.at) h
      (sym (append_assoc (tokens left) _ ts)) (omega arith) s

  member_sound : (left : JExpr) (dot : Position) (n : JParam) (ts : Tokens) (x : JExpr × Tokens) → Stands d primary_level left
      → r.member (r.type_read d) (r.base_read (suc d)) (r.typed_read d) (r.read d) left dot n ts ≡ Some x → Takes (suc d) primary_level (tokens left ++ Token.Sign m.Dot dot ∷ Token.Id n.name n.at ∷ ts) x
  unfolding r.member
  member_sound left dot n (Token.Sign m.OpenRound lp ∷ rest) x s h = method_sound left dot n lp rest x s h
  member_sound left dot n ts x s h = field_sound left dot n ts x s h

  not_true : (b : Bool) → not b ≡ true → b ≡ false
  not_true true h = absurd (cc h)
  not_true false h = refl

  element_sound : (left : JExpr) (lp : Position) (ts : Tokens) (x : JExpr × Tokens) → Stands d primary_level left → is_sized left ≡ false
      → r.element (r.type_read d) (r.base_read (suc d)) (r.typed_read d) (r.read d) left lp ts ≡ Some x → Takes (suc d) primary_level (tokens left ++ Token.Sign m.OpenSquare lp ∷ ts) x
  unfolding r.element
  element_sound left lp ts x s unsized h =
      let a = bind_some (r.read d any_level ts) _ _ h in
      let c = bind_some (r.close_square a.0.1) _ _ a.2 in
      let i = sound any_level ts a.0 a.1 in
      at d primary_level (JExpr-F.Element left lp a.0.0 c.0.0) _ x _ c.0.1 (e.rolls-Element left lp a.0.0 c.0.0) c.2
      (ap (λ r. tokens left ++ Token.Sign m.OpenSquare lp ∷ r) (i.0 ∙ ap (λ r. tokens a.0.0 ++ r) (close_square_only _ c.0 c.1) ∙ sym (append_assoc (tokens a.0.0) _ c.0.1))
      ∙ sym (append_assoc (tokens left) _ c.0.1))
      (omega arith) (s, unsized, i.1)

  test_sound : (left : JExpr) (p : Position) (ts : Tokens) (x : JExpr × Tokens) → Stands d relation_level left
      → (r.type_read d ts >>= λ x. Some (e.Instanceof left p x.0, x.1)) ≡ Some x → Takes (suc d) relation_level (tokens left ++ Token.Word w.Instanceof p ∷ ts) x
  test_sound left p ts x s h =
      let a = bind_some (r.type_read d ts) _ _ h in
      let k = type_sound d ts a.0 a.1 in
      at d relation_level (JExpr-F.Instanceof left p a.0.0) _ x _ a.0.1 (e.rolls-Instanceof left p a.0.0) a.2
      (ap (λ r. tokens left ++ Token.Word w.Instanceof p ∷ r) k.0 ∙ sym (append_assoc (tokens left) _ a.0.1))
      (omega arith) (s, k.1)

  finish_sound : (s : Suffix) (l : ℕ) (left : JExpr) (ts : Tokens) (x : JExpr × Tokens) → Stands d l left → r.takes s left ≡ true
      → r.finish (r.type_read d) (r.base_read (suc d)) (r.typed_read d) (r.read d) s left ts ≡ Some x → Goes_on s left ts x
  unfolding r.finish
  finish_sound (sx.Binary op p) l left ts x s fits h =
      let b = bind_some (r.read d ((level op + 1)) ts) _ _ h in
      let i = sound ((level op + 1)) ts b.0 b.1 in
      at d (level op) (JExpr-F.Binary left op p b.0.0) _ x _ b.0.1 (e.rolls-Binary left op p b.0.0) b.2
      (ap (λ r. tokens left ++ (operator_tokens op p ++ r)) i.0 ∙ sym (three (tokens left) (operator_tokens op p) (tokens b.0.0) b.0.1))
      (omega arith) (at_level d l (level op) left s (le_true _ _ (both_true _ _ fits).0), i.1, (both_true _ _ fits).1)
  finish_sound (sx.Assign op p) l left ts x s fits h =
      let b = bind_some (r.read d any_level ts) _ _ h in
      let i = sound any_level ts b.0 b.1 in
      at d any_level (JExpr-F.Assign left op p b.0.0) _ x _ b.0.1 (e.rolls-Assign left op p b.0.0) b.2
      (ap (λ r. tokens left ++ (assign_tokens op p ++ r)) i.0 ∙ sym (three (tokens left) (assign_tokens op p) (tokens b.0.0) b.0.1))
      (omega arith) (at_level d l primary_level left s (left_is_primary left fits), fits, i.1)
  finish_sound (sx.Question p) l left ts x s fits h = choice_sound left p ts x (at_level d l or_level left s (le_true _ _ fits)) h
  finish_sound (sx.Dot p) l left ts x s fits h =
      let b = bind_some (r.ident ts) _ _ h in
      let text : tokens left ++ Token.Sign m.Dot p ∷ ts ≡ tokens left ++ Token.Sign m.Dot p ∷ Token.Id b.0.0.name b.0.0.at ∷ b.0.1 = ap (λ r. tokens left ++ Token.Sign m.Dot p ∷ r) (ident_only ts b.0 b.1) in
      subst (λ us. Takes (suc d) primary_level us x) (sym text) (member_sound left p b.0.0 b.0.1 x (at_level d l primary_level left s (le_true _ _ fits)) b.2)
  finish_sound (sx.Square p) l left ts x s fits h =
      let both = both_true (nat_le primary_level (top left)) (not (is_sized left)) fits in
      element_sound left p ts x (at_level d l primary_level left s (le_true _ _ both.0)) (not_true (is_sized left) both.1) h
  finish_sound (sx.Postfix op p) l left ts x s fits h =
      at d postfix_level (JExpr-F.Postfix left op p) _ x _ ts (e.rolls-Postfix left op p) h
      (sym (append_assoc (tokens left) _ ts)) (omega arith) (at_level d l postfix_level left s (le_true _ _ fits))
  finish_sound (sx.Instanceof p) l left ts x s fits h = test_sound left p ts x (at_level d l relation_level left s (le_true _ _ fits)) h

  stop : (least : ℕ) (left : JExpr) (ts : Tokens) (x : JExpr × Tokens) → Stands (suc d) least left → Option.Some (left, ts) ≡ Some x → Takes (suc d) least (tokens left ++ ts) x
  stop least left ts x s h = subst (Takes (suc d) least (tokens left ++ ts)) (some_same h) (record { same = refl; stands = s })

  grown_sound : (least : ℕ) (left : JExpr) (ts : Tokens) (s : Suffix × Tokens) (go : JExpr × Tokens → r.Read JExpr) (x : JExpr × Tokens)
      → Stands (suc d) least left → ts ≡ suffix_text s
      → ((y : JExpr × Tokens) → Stands (suc d) least y.0 → go y ≡ Some x → Takes (suc d) least (tokens y.0 ++ y.1) x)
      → r.grown (r.type_read d) (r.base_read (suc d)) (r.typed_read d) (r.read d) d least left ts s go ≡ Some x → Takes (suc d) least (tokens left ++ ts) x
  unfolding r.grown
  grown_sound least left ts s go x good text next h =
      elim (cond_is (nat_lt (r.strength s.0) least) (Option.Some (left, ts)) (if r.takes s.0 left && nat_le (depth left) d then r.finish (r.type_read d) (r.base_read (suc d)) (r.typed_read d) (r.read d) s.0 left s.1 >>= go else None) (Some x) h) [
        | inl a ↦ stop least left ts x good a.1
        | inr a ↦ (let g = guard_some (r.takes s.0 left && nat_le (depth left) d) (r.finish (r.type_read d) (r.base_read (suc d)) (r.typed_read d) (r.read d) s.0 left s.1 >>= go) x a.1 in
            let both = both_true (r.takes s.0 left) (nat_le (depth left) d) g.0 in
            let f = bind_some (r.finish (r.type_read d) (r.base_read (suc d)) (r.typed_read d) (r.read d) s.0 left s.1) go x g.1 in
            let made = finish_sound s.0 least left s.1 f.0 (resize (suc d) d least left good (le_true _ _ both.1)) both.0 f.1 in
            let strong : least ≤ r.strength s.0 = lt_false _ _ a.0 in
            let same : tokens left ++ ts ≡ tokens f.0.0 ++ f.0.1 = ap (λ r. tokens left ++ r) text ∙ made.same in
            subst (λ ts. Takes (suc d) least ts x) (sym same)
            (next f.0 (at_level (suc d) (r.strength s.0) least f.0.0 made.stands (omega (arith, strong, level_is (suc d) (r.strength s.0) f.0.0 made.stands))) f.2))
      ]

  climb_sound : (least n : ℕ) (left : JExpr) (ts : Tokens) (x : JExpr × Tokens) → Stands (suc d) least left
      → r.climb (r.type_read d) (r.base_read (suc d)) (r.typed_read d) (r.read d) d least n left ts ≡ Some x → Takes (suc d) least (tokens left ++ ts) x
  unfolding r.climb
  climb_sound least zero left ts x s h = stop least left ts x s h
  climb_sound least (suc n) left ts x s h = elim (maybe_is (r.suffix ts) (Option.Some (left, ts)) (λ s. r.grown (r.type_read d) (r.base_read (suc d)) (r.typed_read d) (r.read d) d least left ts s (λ x. r.climb (r.type_read d) (r.base_read (suc d)) (r.typed_read d) (r.read d) d least n x.0 x.1)) (Some x) h) [
    | inl a ↦ stop least left ts x s a.1
    | inr a ↦ grown_sound least left ts a.0 (λ x. r.climb (r.type_read d) (r.base_read (suc d)) (r.typed_read d) (r.read d) d least n x.0 x.1) x s (suffix_only ts a.0 a.1)
        (λ y good h. climb_sound least n y.0 y.1 x good h) a.2
  ]

  read_sound : Sounds (suc d)
  unfolding r.read r.level_read
  read_sound l ts x h =
      let a = bind_some (r.operand (r.type_read d) (r.base_read (suc d)) (r.typed_read d) (r.read d) ts) _ _ h in
      let g = guard_some (nat_le l (top a.0.0) && nat_le (depth a.0.0) (d + 1)) (r.climb (r.type_read d) (r.base_read (suc d)) (r.typed_read d) (r.read d) d l (d + 1) a.0.0 a.0.1) x a.2 in
      let both = both_true (nat_le l (top a.0.0)) (nat_le (depth a.0.0) (d + 1)) g.0 in
      let fits : depth a.0.0 ≤ d + 1 = le_true (depth a.0.0) (d + 1) both.1 in
      let i = operand_sound ts a.0 (omega arith) a.1 in
      let k = climb_sound l (d + 1) a.0.0 a.0.1 x (at_level (suc d) 0 l a.0.0 i.stands (le_true _ _ both.0)) g.1 in
      (i.same ∙ k.same, k.stands)

pub sound : (d : ℕ) → Sounds d
unfolding r.read
sound zero l ts x h = absurd (cc h)
sound (suc d) l ts x h = read_sound d (sound d) l ts x h
