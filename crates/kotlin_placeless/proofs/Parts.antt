-- The last part of each type, at the place of what was made.
use Rattle.std.proofs.Common.{◌≡◌, Bool, true, false, List, [], ◌∷◌, ◌++◌, map, Option, Some, None, refl, ap, ◌∙◌}
use Rattle.std.specs.Prelude.{if◌then◌else◌}
use Rattle.std.specs.Option.{option_map}
use Rattle.grammar.specs.Machine.{◌>>=◌}
use Rattle.kotlin_tree.specs.UpToPlaces.{unplaced_name, unplaced_qualified, unplaced_label, unplaced_target, unplaced_modifier, unplaced_package, unplaced_import}
use Rattle.kotlin_grammar.specs.declared.built.Built.{Built}
use Rattle.kotlin_grammar.specs.Parts.{last, last_brackets, last_head, last_place, last_token, last_name, last_commas, last_qualified, last_kind, last_kinds, last_arguments, last_expr, last_exprs, last_lambda_names, last_choice, last_choices, last_branch, last_branches, last_catch, last_catches, last_block, last_statement, last_statements, last_target, last_label, last_declared, last_value, last_setter, last_typed, last_body, last_param_list, last_params, last_delegation, last_modifiers, last_member, last_members, last_type_param_list, last_type_params, last_super_list, last_supers, last_class_word, last_package, last_imports, last_class}
use Rattle.kotlin_placeless.specs.Placeless.{at_made, all_made, brackets_made, head_made, placeless_arguments, placeless_block, placeless_branch, placeless_catch, placeless_choice, placeless_class, placeless_class_head, placeless_declared, placeless_delegation, placeless_expression, placeless_member, placeless_names, placeless_param, placeless_params, placeless_setter, placeless_statement, placeless_super, placeless_supers, placeless_token, placeless_type, placeless_type_param, placeless_type_params, placeless_typed, placeless_value, placeless_built}

-- a part, and what is built besides
abbrev pub moved : {A : Type 0} → (A → A) → A × Built → A × Built
moved f x = (f x.0, placeless_built x.1)

pub carried : {A B C D : Type 0} (f : A → B) (g : C → D) (o : Option A) (u : Option B) (next : A → Option C) (after : B → Option D) → u ≡ option_map f o → ((x : A) → after (f x) ≡ option_map g (next x))
    → (u >>= after) ≡ option_map g (o >>= next)
carried f g None u next after is h = ap (λ z. z >>= after) is
carried f g (Some x) u next after is h = ap (λ z. z >>= after) is ∙ h x

pub bound_same : {A C D : Type 0} (g : C → D) (o : Option A) (next : A → Option C) (after : A → Option D) → ((x : A) → after x ≡ option_map g (next x)) → (o >>= after) ≡ option_map g (o >>= next)
bound_same g None next after h = refl
bound_same g (Some x) next after h = h x

pub chosen : {C : Type 0} (g : C → C) (b c : Bool) (x y : Option C) → b ≡ c → x ≡ option_map g y → (if b then x else None) ≡ option_map g (if c then y else None)
chosen g b true x y is h = ap (λ z. if z then x else None) is ∙ h
chosen g b false x y is h = ap (λ z. if z then x else None) is

pub one_more : {A B : Type 0} (f : A → B) (xs : List A) (x : A) → map f (xs ++ x ∷ []) ≡ (map f xs ++ f x ∷ [])
one_more f [] x = refl
one_more f (y ∷ xs) x = ap (λ z. f y ∷ z) (one_more f xs x)

last_moved : {A : Type 0} (f : A → A) (xs : List A) (g h : List A → Built) → ((zs : List A) → h (map f zs) ≡ placeless_built (g zs)) → last (map f xs) h ≡ option_map (moved f) (last xs g)
last_moved f [] g h is = refl
last_moved f (x ∷ xs) g h is = ap (λ z. Some (f x, z)) (is xs)

pub pop_place : (b : Built) → last_place (placeless_built b) ≡ option_map (moved at_made) (last_place b)
unfolding placeless_built last_place
pop_place b = last_moved at_made b.places (λ xs. record b { places = xs }) (λ xs. record (placeless_built b) { places = xs }) (λ zs. refl)

pub pop_token : (b : Built) → last_token (placeless_built b) ≡ option_map (moved placeless_token) (last_token b)
unfolding placeless_built last_token
pop_token b = last_moved placeless_token b.tokens (λ xs. record b { tokens = xs }) (λ xs. record (placeless_built b) { tokens = xs }) (λ zs. refl)

pub pop_name : (b : Built) → last_name (placeless_built b) ≡ option_map (moved unplaced_name) (last_name b)
unfolding placeless_built last_name
pop_name b = last_moved unplaced_name b.names (λ xs. record b { names = xs }) (λ xs. record (placeless_built b) { names = xs }) (λ zs. refl)

pub pop_commas : (b : Built) → last_commas (placeless_built b) ≡ option_map (moved all_made) (last_commas b)
unfolding placeless_built last_commas
pop_commas b = last_moved all_made b.comma_lists (λ xs. record b { comma_lists = xs }) (λ xs. record (placeless_built b) { comma_lists = xs }) (λ zs. refl)

pub pop_qualified : (b : Built) → last_qualified (placeless_built b) ≡ option_map (moved unplaced_qualified) (last_qualified b)
unfolding placeless_built last_qualified
pop_qualified b = last_moved unplaced_qualified b.qualifieds (λ xs. record b { qualifieds = xs }) (λ xs. record (placeless_built b) { qualifieds = xs }) (λ zs. refl)

pub pop_kind : (b : Built) → last_kind (placeless_built b) ≡ option_map (moved placeless_type) (last_kind b)
unfolding placeless_built last_kind
pop_kind b = last_moved placeless_type b.kinds (λ xs. record b { kinds = xs }) (λ xs. record (placeless_built b) { kinds = xs }) (λ zs. refl)

pub pop_kinds : (b : Built) → last_kinds (placeless_built b) ≡ option_map (moved (map placeless_type)) (last_kinds b)
unfolding placeless_built last_kinds
pop_kinds b = last_moved (map placeless_type) b.kind_lists (λ xs. record b { kind_lists = xs }) (λ xs. record (placeless_built b) { kind_lists = xs }) (λ zs. refl)

pub pop_arguments : (b : Built) → last_arguments (placeless_built b) ≡ option_map (moved placeless_arguments) (last_arguments b)
unfolding placeless_built last_arguments
pop_arguments b = last_moved placeless_arguments b.argument_lists (λ xs. record b { argument_lists = xs }) (λ xs. record (placeless_built b) { argument_lists = xs }) (λ zs. refl)

pub pop_expr : (b : Built) → last_expr (placeless_built b) ≡ option_map (moved placeless_expression) (last_expr b)
unfolding placeless_built last_expr
pop_expr b = last_moved placeless_expression b.exprs (λ xs. record b { exprs = xs }) (λ xs. record (placeless_built b) { exprs = xs }) (λ zs. refl)

pub pop_exprs : (b : Built) → last_exprs (placeless_built b) ≡ option_map (moved (map placeless_expression)) (last_exprs b)
unfolding placeless_built last_exprs
pop_exprs b = last_moved (map placeless_expression) b.expr_lists (λ xs. record b { expr_lists = xs }) (λ xs. record (placeless_built b) { expr_lists = xs }) (λ zs. refl)

pub pop_lambda_names : (b : Built) → last_lambda_names (placeless_built b) ≡ option_map (moved placeless_names) (last_lambda_names b)
unfolding placeless_built last_lambda_names
pop_lambda_names b = last_moved placeless_names b.lambda_names (λ xs. record b { lambda_names = xs }) (λ xs. record (placeless_built b) { lambda_names = xs }) (λ zs. refl)

pub pop_choice : (b : Built) → last_choice (placeless_built b) ≡ option_map (moved placeless_choice) (last_choice b)
unfolding placeless_built last_choice
pop_choice b = last_moved placeless_choice b.choices (λ xs. record b { choices = xs }) (λ xs. record (placeless_built b) { choices = xs }) (λ zs. refl)

pub pop_choices : (b : Built) → last_choices (placeless_built b) ≡ option_map (moved (map placeless_choice)) (last_choices b)
unfolding placeless_built last_choices
pop_choices b = last_moved (map placeless_choice) b.choice_lists (λ xs. record b { choice_lists = xs }) (λ xs. record (placeless_built b) { choice_lists = xs }) (λ zs. refl)

pub pop_branch : (b : Built) → last_branch (placeless_built b) ≡ option_map (moved placeless_branch) (last_branch b)
unfolding placeless_built last_branch
pop_branch b = last_moved placeless_branch b.branches (λ xs. record b { branches = xs }) (λ xs. record (placeless_built b) { branches = xs }) (λ zs. refl)

pub pop_branches : (b : Built) → last_branches (placeless_built b) ≡ option_map (moved (map placeless_branch)) (last_branches b)
unfolding placeless_built last_branches
pop_branches b = last_moved (map placeless_branch) b.branch_lists (λ xs. record b { branch_lists = xs }) (λ xs. record (placeless_built b) { branch_lists = xs }) (λ zs. refl)

pub pop_catch : (b : Built) → last_catch (placeless_built b) ≡ option_map (moved placeless_catch) (last_catch b)
unfolding placeless_built last_catch
pop_catch b = last_moved placeless_catch b.catches (λ xs. record b { catches = xs }) (λ xs. record (placeless_built b) { catches = xs }) (λ zs. refl)

pub pop_catches : (b : Built) → last_catches (placeless_built b) ≡ option_map (moved (map placeless_catch)) (last_catches b)
unfolding placeless_built last_catches
pop_catches b = last_moved (map placeless_catch) b.catch_lists (λ xs. record b { catch_lists = xs }) (λ xs. record (placeless_built b) { catch_lists = xs }) (λ zs. refl)

pub pop_block : (b : Built) → last_block (placeless_built b) ≡ option_map (moved placeless_block) (last_block b)
unfolding placeless_built last_block
pop_block b = last_moved placeless_block b.blocks (λ xs. record b { blocks = xs }) (λ xs. record (placeless_built b) { blocks = xs }) (λ zs. refl)

pub pop_statement : (b : Built) → last_statement (placeless_built b) ≡ option_map (moved placeless_statement) (last_statement b)
unfolding placeless_built last_statement
pop_statement b = last_moved placeless_statement b.statements (λ xs. record b { statements = xs }) (λ xs. record (placeless_built b) { statements = xs }) (λ zs. refl)

pub pop_statements : (b : Built) → last_statements (placeless_built b) ≡ option_map (moved (map placeless_statement)) (last_statements b)
unfolding placeless_built last_statements
pop_statements b = last_moved (map placeless_statement) b.statement_lists (λ xs. record b { statement_lists = xs }) (λ xs. record (placeless_built b) { statement_lists = xs }) (λ zs. refl)

pub pop_target : (b : Built) → last_target (placeless_built b) ≡ option_map (moved (option_map unplaced_target)) (last_target b)
unfolding placeless_built last_target
pop_target b = last_moved (option_map unplaced_target) b.targets (λ xs. record b { targets = xs }) (λ xs. record (placeless_built b) { targets = xs }) (λ zs. refl)

pub pop_label : (b : Built) → last_label (placeless_built b) ≡ option_map (moved (option_map unplaced_label)) (last_label b)
unfolding placeless_built last_label
pop_label b = last_moved (option_map unplaced_label) b.labels (λ xs. record b { labels = xs }) (λ xs. record (placeless_built b) { labels = xs }) (λ zs. refl)

pub pop_declared : (b : Built) → last_declared (placeless_built b) ≡ option_map (moved placeless_declared) (last_declared b)
unfolding placeless_built last_declared
pop_declared b = last_moved placeless_declared b.declared (λ xs. record b { declared = xs }) (λ xs. record (placeless_built b) { declared = xs }) (λ zs. refl)

pub pop_value : (b : Built) → last_value (placeless_built b) ≡ option_map (moved (option_map placeless_value)) (last_value b)
unfolding placeless_built last_value
pop_value b = last_moved (option_map placeless_value) b.values (λ xs. record b { values = xs }) (λ xs. record (placeless_built b) { values = xs }) (λ zs. refl)

pub pop_setter : (b : Built) → last_setter (placeless_built b) ≡ option_map (moved (option_map placeless_setter)) (last_setter b)
unfolding placeless_built last_setter
pop_setter b = last_moved (option_map placeless_setter) b.setters (λ xs. record b { setters = xs }) (λ xs. record (placeless_built b) { setters = xs }) (λ zs. refl)

pub pop_typed : (b : Built) → last_typed (placeless_built b) ≡ option_map (moved (option_map placeless_typed)) (last_typed b)
unfolding placeless_built last_typed
pop_typed b = last_moved (option_map placeless_typed) b.typed (λ xs. record b { typed = xs }) (λ xs. record (placeless_built b) { typed = xs }) (λ zs. refl)

pub pop_body : (b : Built) → last_body (placeless_built b) ≡ option_map (moved (option_map placeless_block)) (last_body b)
unfolding placeless_built last_body
pop_body b = last_moved (option_map placeless_block) b.bodies (λ xs. record b { bodies = xs }) (λ xs. record (placeless_built b) { bodies = xs }) (λ zs. refl)

pub pop_param_list : (b : Built) → last_param_list (placeless_built b) ≡ option_map (moved (map placeless_param)) (last_param_list b)
unfolding placeless_built last_param_list
pop_param_list b = last_moved (map placeless_param) b.param_lists (λ xs. record b { param_lists = xs }) (λ xs. record (placeless_built b) { param_lists = xs }) (λ zs. refl)

pub pop_params : (b : Built) → last_params (placeless_built b) ≡ option_map (moved placeless_params) (last_params b)
unfolding placeless_built last_params
pop_params b = last_moved placeless_params b.params (λ xs. record b { params = xs }) (λ xs. record (placeless_built b) { params = xs }) (λ zs. refl)

pub pop_delegation : (b : Built) → last_delegation (placeless_built b) ≡ option_map (moved (option_map placeless_delegation)) (last_delegation b)
unfolding placeless_built last_delegation
pop_delegation b = last_moved (option_map placeless_delegation) b.delegations (λ xs. record b { delegations = xs }) (λ xs. record (placeless_built b) { delegations = xs }) (λ zs. refl)

pub pop_modifiers : (b : Built) → last_modifiers (placeless_built b) ≡ option_map (moved (map unplaced_modifier)) (last_modifiers b)
unfolding placeless_built last_modifiers
pop_modifiers b = last_moved (map unplaced_modifier) b.modifier_lists (λ xs. record b { modifier_lists = xs }) (λ xs. record (placeless_built b) { modifier_lists = xs }) (λ zs. refl)

pub pop_member : (b : Built) → last_member (placeless_built b) ≡ option_map (moved placeless_member) (last_member b)
unfolding placeless_built last_member
pop_member b = last_moved placeless_member b.members (λ xs. record b { members = xs }) (λ xs. record (placeless_built b) { members = xs }) (λ zs. refl)

pub pop_members : (b : Built) → last_members (placeless_built b) ≡ option_map (moved (map placeless_member)) (last_members b)
unfolding placeless_built last_members
pop_members b = last_moved (map placeless_member) b.member_lists (λ xs. record b { member_lists = xs }) (λ xs. record (placeless_built b) { member_lists = xs }) (λ zs. refl)

pub pop_type_param_list : (b : Built) → last_type_param_list (placeless_built b) ≡ option_map (moved (map placeless_type_param)) (last_type_param_list b)
unfolding placeless_built last_type_param_list
pop_type_param_list b = last_moved (map placeless_type_param) b.type_param_lists (λ xs. record b { type_param_lists = xs }) (λ xs. record (placeless_built b) { type_param_lists = xs }) (λ zs. refl)

pub pop_type_params : (b : Built) → last_type_params (placeless_built b) ≡ option_map (moved (option_map placeless_type_params)) (last_type_params b)
unfolding placeless_built last_type_params
pop_type_params b = last_moved (option_map placeless_type_params) b.type_params (λ xs. record b { type_params = xs }) (λ xs. record (placeless_built b) { type_params = xs }) (λ zs. refl)

pub pop_super_list : (b : Built) → last_super_list (placeless_built b) ≡ option_map (moved (map placeless_super)) (last_super_list b)
unfolding placeless_built last_super_list
pop_super_list b = last_moved (map placeless_super) b.super_lists (λ xs. record b { super_lists = xs }) (λ xs. record (placeless_built b) { super_lists = xs }) (λ zs. refl)

pub pop_supers : (b : Built) → last_supers (placeless_built b) ≡ option_map (moved (option_map placeless_supers)) (last_supers b)
unfolding placeless_built last_supers
pop_supers b = last_moved (option_map placeless_supers) b.supers (λ xs. record b { supers = xs }) (λ xs. record (placeless_built b) { supers = xs }) (λ zs. refl)

pub pop_class_word : (b : Built) → last_class_word (placeless_built b) ≡ option_map (moved placeless_class_head) (last_class_word b)
unfolding placeless_built last_class_word
pop_class_word b = last_moved placeless_class_head b.class_words (λ xs. record b { class_words = xs }) (λ xs. record (placeless_built b) { class_words = xs }) (λ zs. refl)

pub pop_package : (b : Built) → last_package (placeless_built b) ≡ option_map (moved (option_map unplaced_package)) (last_package b)
unfolding placeless_built last_package
pop_package b = last_moved (option_map unplaced_package) b.packages (λ xs. record b { packages = xs }) (λ xs. record (placeless_built b) { packages = xs }) (λ zs. refl)

pub pop_imports : (b : Built) → last_imports (placeless_built b) ≡ option_map (moved (map unplaced_import)) (last_imports b)
unfolding placeless_built last_imports
pop_imports b = last_moved (map unplaced_import) b.import_lists (λ xs. record b { import_lists = xs }) (λ xs. record (placeless_built b) { import_lists = xs }) (λ zs. refl)

pub pop_class : (b : Built) → last_class (placeless_built b) ≡ option_map (moved placeless_class) (last_class b)
unfolding placeless_built last_class
pop_class b = last_moved placeless_class b.classes (λ xs. record b { classes = xs }) (λ xs. record (placeless_built b) { classes = xs }) (λ zs. refl)

pub pop_brackets : (b : Built) → last_brackets (placeless_built b) ≡ option_map (moved brackets_made) (last_brackets b)
pop_brackets b =
    carried (moved at_made) (moved brackets_made) (last_place b) (last_place (placeless_built b)) _ _ (pop_place b) (λ closes.
    carried (moved at_made) (moved brackets_made) (last_place closes.1) (last_place (placeless_built closes.1)) _ _ (pop_place closes.1) (λ opens. refl))

pub pop_head : (b : Built) → last_head (placeless_built b) ≡ option_map (moved head_made) (last_head b)
pop_head b =
    carried (moved brackets_made) (moved head_made) (last_brackets b) (last_brackets (placeless_built b)) _ _ (pop_brackets b) (λ round.
    carried (moved at_made) (moved head_made) (last_place round.1) (last_place (placeless_built round.1)) _ _ (pop_place round.1) (λ word. refl))
