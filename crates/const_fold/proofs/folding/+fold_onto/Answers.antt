use Rattle.std.proofs.Common.{rules, ◌≡◌, ◌∙◌, length}
use Rattle.const_fold.specs.Constants.{value_of}
use Rattle.std.specs.Prelude.{Option}
use Rattle.const_fold.specs.declared.folding.Part.{Part}
use Rattle.const_fold.specs.Parts.{HasPart, before_right, two_part, two_units}
use Rattle.const_fold.proofs.Joins.{two_tree, choose_tree, if_ok}
use Rattle.const_fold.proofs.folding.+fold_onto.Goals as goal

pub returns-in_ok-right-in-Choose : goal.returns-in_ok-right-in-Choose
returns-in_ok-right-in-Choose t c =
    let g : HasPart (value_of c.in-Choose.c) c.args.units.now.items c.fold_onto-in-Choose.new.units.items c.in_ok-p-in-Choose.field-0 = search rules in
    let h : HasPart (value_of c.in-Choose.a) c.fold_onto-in-Choose.new.units.items c.fold_onto-in-Choose-2.new.units.items c.in_ok-left-in-Choose.left = search rules in
    let k : HasPart (value_of c.in-Choose.b) c.truncate_if.new.units.items c.fold_onto-in-Choose-3.new.units.items c.in_ok-right-in-Choose.right = search rules in
    let i : c.len-start-in-Choose.result ≡ length c.fold_onto-in-Choose.new.units.items = c.len-start-in-Choose.ensures ∙ c.fold_onto-in-Choose.new.units.ok.0 in
    let j : c.len-middle-in-Choose.result ≡ length c.truncate_if.new.units.items = c.len-middle-in-Choose.ensures ∙ c.truncate_if.new.units.ok.0 in
    choose_tree c.args.e.now c.in-Choose.c c.in-Choose.a c.in-Choose.b c.in_ok-p-in-Choose.field-0 c.in_ok-left-in-Choose.left c.in_ok-right-in-Choose.right c.chosen_part.result c.in-Some-Number-Bool.p
    c.args.units.now.items c.fold_onto-in-Choose.new.units.items c.fold_onto-in-Choose-2.new.units.items c.truncate_if.new.units.items c.fold_onto-in-Choose-3.new.units.items c.truncate_if-in-Choose.new.units.items
    c.len-start-in-Choose.result c.len-middle-in-Choose.result
    c.in-Choose.is g (cc) i h c.truncate_if.ensures j k c.truncate_if-in-Choose.ensures c.chosen_part.ensures

pub returns-in-Some-2 : goal.returns-in-Some-2
returns-in-Some-2 t c =
    let g : HasPart (value_of c.in-Two.a) c.args.units.now.items c.fold_onto-in-Two.new.units.items c.in_ok-left-in-Two.field-0 = search rules in
    let h : HasPart (value_of c.in-Two.b) c.push_before.new.units.items c.fold_onto-in-Two-2.new.units.items c.in_ok-right-in-Two.field-0 = search rules in
    let i : c.len-start.result ≡ length c.args.units.now.items = c.len-start.ensures ∙ c.args.units.now.ok.0 in
    let j : c.len-middle.result ≡ length c.push_before.new.units.items = c.len-middle.ensures ∙ c.push_before.new.units.ok.0 in
    let k : c.push_before.new.units.items ≡ before_right c.in-Some.left c.in-Two.op c.fold_onto-in-Two.new.units.items = search rules in
    if_ok c.join.result
    (λ (part : Option Part). part ≡ two_part c.in-Some.left c.in-Some-2.right c.in-Two.op c.len-start.result c.len-middle.result c.fold_onto-in-Two-2.new.units.items)
    (λ (part : Option Part). HasPart (value_of c.args.e.now) c.args.units.now.items c.join.new.units.items part)
    (c.join.new.units.items ≡ two_units c.in-Some.left c.in-Some-2.right c.in-Two.op c.len-start.result c.fold_onto-in-Two-2.new.units.items)
    c.join.ensures.part c.join.ensures.units
    (λ part ep en. two_tree c.args.e.now c.in-Two.op c.in-Two.a c.in-Two.b c.in_ok-left-in-Two.field-0 c.in_ok-right-in-Two.field-0 part c.in-Some.left c.in-Some-2.right
    c.args.units.now.items c.fold_onto-in-Two.new.units.items c.push_before.new.units.items c.fold_onto-in-Two-2.new.units.items c.join.new.units.items c.len-start.result c.len-middle.result
    c.in-Two.is g c.in-Some.is i k j h c.in-Some-2.is ep en)
