use Rattle.std.proofs.Common.{refl}
use Rattle.rela_translate.specs.Zones.{path_symbols}
use Rattle.rela_branches.proofs.Told.{of_class, of_no_class}
use Rattle.rela_branches.proofs.walk.Walk.is_letter.Goals as goal

pub returns-then-is_path : goal.returns-then-is_path
returns-then-is_path c =
    let found = c.in-Some.ensures.lookup in
    of_class c.args.self.now.classes.now (path_symbols c.args.self.now.locations) c.args.letter c.in-Class.entry c.args.symbol c.in-Class.is c.in-Some.set.now c.has_member.result
    found.3.0 found.1 (c.if-is_path.ensures.0 refl) c.has_member.ensures

pub returns-in-None : goal.returns-in-None
returns-in-None c =
    of_no_class c.args.self.now.classes.now (path_symbols c.args.self.now.locations) c.args.letter c.in-Class.entry c.args.symbol c.in-Class.is c.in-None.ensures.lookup.3
