-- What the fields of a check stand for.
use Rattle.rela_translate.specs.Checked.{Checked, IsCheck}
use Rattle.rela_translate.specs.declared.checks.Check.TheInside.{Inside}

abbrev pub parts : Inside → Checked
parts check = record {
  name = check.name;
  level = check.level;
  when = check.when;
  at_most = check.at_most;
  classes = check.classes.items;
  body = check.body;
}

abbrev pub IsWhole : Inside → Type 0
IsWhole check = IsCheck (parts check)
