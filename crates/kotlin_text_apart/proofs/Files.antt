-- Classes and files: their tokens stand apart.
use Rattle.std.proofs.Common.{◌≡◌, Bool, true, false, List, [], ◌∷◌, ◌++◌, map, Option, Some, None, refl, ap, sym, ◌∙◌, append_assoc}
use Rattle.std.proofs.lemmas.List.{append-nil}
use Rattle.kotlin_tree.specs.declared.tokens.Word.TheVariants as w
use Rattle.kotlin_tree.specs.declared.places.Brackets.{Brackets}
use Rattle.kotlin_tree.specs.declared.members.KTyped.{KTyped}
use Rattle.kotlin_tree.specs.declared.files.KTypeParam.{KTypeParam}
use Rattle.kotlin_tree.specs.declared.files.KTypeParams.{KTypeParams}
use Rattle.kotlin_tree.specs.declared.files.KSuper.{KSuper}
use Rattle.kotlin_tree.specs.declared.files.KSupers.{KSupers}
use Rattle.kotlin_tree.specs.declared.files.KClassWord.{KClassWord}
use Rattle.kotlin_tree.specs.declared.files.KClassWord.TheVariants as class
use Rattle.kotlin_tree.specs.declared.files.KClass.{KClass}
use Rattle.kotlin_tree.specs.declared.files.KPackage.{KPackage}
use Rattle.kotlin_tree.specs.declared.files.KImport.{KImport}
use Rattle.kotlin_tree.specs.declared.files.KFile.{KFile}
use Rattle.kotlin_layout.specs.declared.glyphs.Glyph.TheVariants as g
use Rattle.kotlin_layout.specs.Roles.{Role, Roles, fixed, name, joined, block}
use Rattle.kotlin_layout.specs.Shown.{qualified_roles, type_roles, comment_roles, modifiers_roles, member_roles, bound_roles, type_param_roles, type_params_roles, super_call, super_roles, supers_roles, class_words, class_roles, package_line, import_line, empty_line, package_part, imports_part, class_part, classes_part, is_absent, is_headless, file_roles}
use Rattle.kotlin_lexed_text.specs.Lexable.{front, ends_mark, is_lexable}
use Rattle.kotlin_text_apart.proofs.Parts.{Flows, behind, seq, name_flows, AllFlow, AllOpen, comma_flows, block_flows, block_calm, comment_go, qualified_flows, typed, angles_flows, angles_calm, list_opens, name_opens}
use Rattle.kotlin_text_apart.proofs.Members.{Leads, Calms, leads_both, led, after, nothing_flows, modifiers_lead, members_stand}

-- ---- parts of classes

bound_calms : (x : Option KTyped) → Calms (bound_roles x)
unfolding front
bound_calms None zs c = c
bound_calms (Some x) zs c = refl

bound_flows : (x : Option KTyped) → Flows (bound_roles x)
unfolding is_lexable front ends_mark
bound_flows None = nothing_flows
bound_flows (Some x) = record { goes = λ o zs c h. (typed x.kind).flows.goes o zs c h }

params_flow : (xs : List KTypeParam) → AllFlow (map type_param_roles xs)
params_flow [] = tt
params_flow (x ∷ xs) = (after (name x.name.name) (bound_roles x.bound) (name_flows x.name.name) (bound_calms x.bound) (bound_flows x.bound), params_flow xs)

params_open : (xs : List KTypeParam) → AllOpen (map type_param_roles xs)
params_open [] = tt
params_open (x ∷ xs) = (λ zs. name_opens x.name.name (bound_roles x.bound ++ zs), params_open xs)

type_params_calms : (x : Option KTypeParams) → Calms (type_params_roles x)
type_params_calms None zs c = c
type_params_calms (Some x) zs c = angles_calm (map type_param_roles x.items) zs

type_params_flow : (x : Option KTypeParams) → Flows (type_params_roles x)
type_params_flow None = nothing_flows
type_params_flow (Some x) = angles_flows (map type_param_roles x.items) (params_flow x.items) (list_opens (map type_param_roles x.items) (params_open x.items))

call_calms : (x : Option Brackets) → Calms (super_call x)
unfolding front
call_calms None zs c = c
call_calms (Some x) zs c = refl

call_flows : (x : Option Brackets) → Flows (super_call x)
unfolding is_lexable front ends_mark
call_flows None = nothing_flows
call_flows (Some x) = record { goes = λ o zs c h. h }

supers_each : (xs : List KSuper) → AllFlow (map super_roles xs)
supers_each [] = tt
supers_each (x ∷ xs) = (after (type_roles x.kind) (super_call x.round) (typed x.kind).flows (call_calms x.round) (call_flows x.round), supers_each xs)

supers_calms : (x : Option KSupers) → Calms (supers_roles x)
unfolding front
supers_calms None zs c = c
supers_calms (Some x) zs c = refl

supers_flow : (x : Option KSupers) → Flows (supers_roles x)
unfolding is_lexable front ends_mark
supers_flow None = nothing_flows
supers_flow (Some x) = record { goes = λ o zs c h. (comma_flows (map super_roles x.items) (supers_each x.items)).goes o zs c h }

words_lead : (x : KClassWord) → Leads (fixed (class_words x))
unfolding is_lexable front
words_lead class.Class o zs h = h
words_lead class.Interface o zs h = h
words_lead (class.FunClass at) o zs h = h
words_lead (class.FunInterface at) o zs h = h

-- ---- classes, each behind its comments, where no bracket is open

-- what stands at the top of a file
abbrev Tops : Roles → Type 0
Tops R = (zs : Roles) → is_lexable [] zs ≡ true → is_lexable [] (R ++ zs) ≡ true

tops_both : (A B : Roles) → Tops A → Tops B → Tops (A ++ B)
tops_both A B a b zs h = behind [] A B zs (a (B ++ zs) (b zs h))

-- on a line of its own
lined : (R : Roles) → Flows R → Tops (R ++ fixed (g.Line ∷ []))
unfolding is_lexable front
lined R r zs h = behind [] R (fixed (g.Line ∷ [])) zs (r.goes [] (Role.Fixed g.Line ∷ zs) refl h)

empty_tops : (first : Bool) → Tops (empty_line first)
unfolding is_lexable
empty_tops true zs h = h
empty_tops false zs h = h

class_flows : (x : KClass) → Flows ((modifiers_roles x.modifiers ++ fixed (class_words x.word) ++ name x.name.name ++ type_params_roles x.params ++ supers_roles x.supers) ++ block (map member_roles x.members))
class_flows x =
    let a = modifiers_roles x.modifiers in
    let b = fixed (class_words x.word) in
    let n = name x.name.name in
    let p = type_params_roles x.params in
    let s = supers_roles x.supers in
    let e = map member_roles x.members in
    seq (a ++ b ++ n ++ p ++ s) (block e)
    (after (a ++ b ++ n ++ p) s
    (after (a ++ b ++ n) p (led (a ++ b) n (leads_both a b (modifiers_lead x.modifiers) (words_lead x.word)) (name_flows x.name.name)) (type_params_calms x.params) (type_params_flow x.params))
    (supers_calms x.supers) (supers_flow x.supers))
    (block_calm e) (block_flows e (members_stand x.members))

regrouped : (c a b n p s e : Roles) → c ++ a ++ b ++ n ++ p ++ s ++ e ≡ c ++ (a ++ b ++ n ++ p ++ s ++ e)
regrouped c a b n p s e =
    ap (λ z. z ++ n ++ p ++ s ++ e) (append_assoc c a b) ∙ ap (λ z. z ++ p ++ s ++ e) (append_assoc c (a ++ b) n) ∙ ap (λ z. z ++ s ++ e) (append_assoc c (a ++ b ++ n) p)
    ∙ ap (λ z. z ++ e) (append_assoc c (a ++ b ++ n ++ p) s) ∙ append_assoc c (a ++ b ++ n ++ p ++ s) e

class_tops : (first : Bool) (x : KClass) → Tops (class_part first x)
unfolding class_roles
class_tops first x =
    let c = comment_roles x.comments in
    let e = fixed (g.Line ∷ []) in
    let r = (modifiers_roles x.modifiers ++ fixed (class_words x.word) ++ name x.name.name ++ type_params_roles x.params ++ supers_roles x.supers) ++ block (map member_roles x.members) in
    let same : (empty_line first ++ class_roles x) ++ e ≡ empty_line first ++ (c ++ (r ++ e)) =
    append_assoc (empty_line first) (class_roles x) e
    ∙ ap (λ z. empty_line first ++ (z ++ e)) (regrouped c (modifiers_roles x.modifiers) (fixed (class_words x.word)) (name x.name.name) (type_params_roles x.params) (supers_roles x.supers) (block (map member_roles x.members)))
    ∙ ap (λ z. empty_line first ++ z) (append_assoc c r e) in
    λ zs h. ap (λ z. is_lexable [] (z ++ zs)) same
    ∙ tops_both (empty_line first) (c ++ (r ++ e)) (empty_tops first) (tops_both c (r ++ e) (λ us i. comment_go x.comments [] us refl i) (lined r (class_flows x))) zs h

-- ---- files

package_tops : (x : Option KPackage) → Tops (package_part x)
unfolding is_lexable front
package_tops None zs h = h
package_tops (Some x) zs h = lined (package_line x) (record { goes = λ o us c i. (qualified_flows x.name).goes o us c i }) zs h

import_tops : (x : KImport) → Tops (import_line x)
unfolding is_lexable front
import_tops x = lined (fixed (g.Word w.Import ∷ g.Blank ∷ []) ++ qualified_roles x.name) (record { goes = λ o zs c h. (qualified_flows x.name).goes o zs c h })

imports_top : (xs : List KImport) → Tops (joined (map import_line xs))
imports_top [] zs h = h
imports_top (x ∷ xs) zs h = tops_both (import_line x) (joined (map import_line xs)) (import_tops x) (imports_top xs) zs h

imports_tops : (first : Bool) (xs : List KImport) → Tops (imports_part first xs)
imports_tops first [] zs h = h
imports_tops first (x ∷ xs) zs h = tops_both (empty_line first) (joined (map import_line (x ∷ xs))) (empty_tops first) (imports_top (x ∷ xs)) zs h

later_tops : (xs : List KClass) → Tops (joined (map (class_part false) xs))
later_tops [] zs h = h
later_tops (x ∷ xs) zs h = tops_both (class_part false x) (joined (map (class_part false) xs)) (class_tops false x) (later_tops xs) zs h

classes_tops : (first : Bool) (xs : List KClass) → Tops (classes_part first xs)
classes_tops first [] zs h = h
classes_tops first (x ∷ xs) zs h = tops_both (class_part first x) (joined (map (class_part false) xs)) (class_tops first x) (later_tops xs) zs h

pub file_apart : (x : KFile) → is_lexable [] (file_roles x) ≡ true
unfolding file_roles is_lexable
file_apart x =
    let a = package_part x.package in
    let b = imports_part (is_absent x.package) x.imports in
    let c = classes_part (is_headless x.package x.imports) x.classes in
    ap (is_lexable []) (sym (append-nil (a ++ b ++ c)))
    ∙ tops_both (a ++ b) c (tops_both a b (package_tops x.package) (imports_tops (is_absent x.package) x.imports)) (classes_tops (is_headless x.package x.imports) x.classes) [] refl
