use Rattle.std.proofs.Common.{◌≡◌, ◌<◌, length, arith, rules}
use Rattle.j2k_tool.proofs.Projects.{added_few, names_step, forms_step, unit_here, units_long}
use Rattle.j2k_tool.proofs.project.forms_of.Goals as goal

pub look-requires : goal.look-requires
look-requires c =
    let h : c.loop-number.number < length c.args.files.now = omega arith in
    unit_here c.args.files.now c.args.units.now c.loop-number.number c.index-files-number.result c.index-units-number.result c.requires h c.index-files-number.is c.index-units-number.is

pub loop-number-preserved : goal.loop-number-preserved
loop-number-preserved c =
    let h : c.loop-number.number < length c.args.files.now = omega arith in
    record {
      earlier = names_step c.args.files.now c.loop-number.number c.index-files-number.result h c.index-files-number.is c.loop-number.earlier c.declare.new.names c.loop-number.invariant.earlier (rw c.as_str.ensures at c.in_ok-declare.ensures);
      few = added_few c.loop-number.forms c.add.new.self c.in_ok-found.found c.loop-number.number c.in_ok-add.ensures c.loop-number.invariant.few;
      forms = forms_step c.args.files.now c.loop-number.number c.index-files-number.result h c.index-files-number.is c.args.classes.now c.loop-number.earlier c.loop-number.forms c.add.new.self c.in_ok-found.found
          c.loop-number.invariant.earlier c.loop-number.invariant.forms c.in_ok-found.ensures c.in_ok-add.ensures;
    }

pub bounds-units-number : goal.bounds-units-number
bounds-units-number c =
    let h : c.loop-number.number < length c.args.files.now = omega arith in
    let long : length c.args.units.now ≡ length c.args.files.now = units_long c.args.files.now c.args.units.now c.requires in
    omega (arith, h, long)

pub offset_bounds-units-number : goal.offset_bounds-units-number
offset_bounds-units-number c =
    let h : c.loop-number.number < length c.args.files.now = omega arith in
    let long : length c.args.units.now ≡ length c.args.files.now = units_long c.args.files.now c.args.units.now c.requires in
    let less : c.loop-number.number < length c.args.units.now = omega (arith, h, long) in
    search rules
