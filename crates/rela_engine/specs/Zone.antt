-- The text of a check's zone, and when the limit leaves it open.
use Rattle.std.specs.Prelude.{◌≡◌, ℕ, ◌+◌, List, length}
use Rattle.rela_names.specs.Alphabet.{path_symbols}
use Rattle.rela_rir.specs.Limit.{ForcedInside, ReachedInside}
use Rattle.rela_rir.specs.declared.term.PathTerm.TheVariants.{Complement}
use Rattle.rela_translate.specs.Checked.{Checked}
use Rattle.rela_translate.specs.Terms.{zone_of}
use Rattle.rela_translate.specs.Zones.{Zone}
use Rattle.rela_engine.specs.AutomatonText.{automaton_text}
use Rattle.rela_engine.specs.Scenes.{bare_scene}
use Rattle.rela_engine.specs.SymbolAutomata.{SymbolAutomaton, IsMinimalOf}

-- the text is that of the minimal automaton of the check's zone, over the path symbols
abbrev pub IsZoneText : Checked → List (List ℕ) → List ℕ → Type 0
IsZoneText check names text =
    (a : SymbolAutomaton)
    × IsMinimalOf (path_symbols names) (Zone check.classes (length names) check.body) a
    × (text ≡ automaton_text names a)

-- the zone's complement, or a meet or a complement in the zone, has more reached places than the limit
abbrev pub ZonePassesLimit : Checked → ℕ → ℕ → Type 0
ZonePassesLimit check locations limit =
    ReachedInside (bare_scene check locations) (limit + 1) (Complement (zone_of locations
    check.body))

-- the zone, or the part of a complement in it, tells more words than the limit
abbrev pub ZoneMustPassLimit : Checked → ℕ → ℕ → Type 0
ZoneMustPassLimit check locations limit =
    ForcedInside (bare_scene check locations) (limit + 1) (Complement (zone_of locations
    check.body))
