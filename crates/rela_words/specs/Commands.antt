-- The command that was read.
use Rattle.std.specs.Prelude.{ℕ, List, codes, string_bytes}
use Rattle.rela_words.specs.declared.command.Command as declared
use Rattle.rela_words.specs.declared.command.Command.TheVariants as asked
use Rattle.rela_words.specs.declared.verb.Verb.{Verb}
use Rattle.rela_words.specs.declared.verb.Verb.TheVariants as verbs
use Rattle.rela_words.specs.Words.{Command, Check, Fmt, Fib, Zone, Rir, Certify, Audit, Demo}

-- with the names as their bytes
abbrev pub command_of : declared.Command → Command
command_of (asked.Check c) = Check (string_bytes c.before) (string_bytes c.after)
    (string_bytes c.locations) (string_bytes c.spec) c.states c.blame
command_of (asked.Fmt c) = Fmt (string_bytes c.spec)
command_of (asked.Fib c) =
    Fib (string_bytes c.tables) (string_bytes c.other) (string_bytes c.locations)
command_of (asked.Zone c) =
    Zone (string_bytes c.locations) (string_bytes c.spec) (string_bytes c.name) c.states
command_of (asked.Rir c) = Rir (string_bytes c.before) (string_bytes c.after)
    (string_bytes c.locations) (string_bytes c.assertions) c.states
command_of (asked.Certify c) = Certify (string_bytes c.before) (string_bytes c.after)
    (string_bytes c.locations) (string_bytes c.spec) c.states
command_of (asked.Audit c) = Audit (string_bytes c.before) (string_bytes c.after)
    (string_bytes c.locations) (string_bytes c.spec) (string_bytes c.certificate)
command_of (asked.Demo c) = Demo c.layers

-- the name that a command is asked for by
abbrev pub name_of : Verb → List ℕ
name_of verbs.Check = codes "check"
name_of verbs.Fmt = codes "fmt"
name_of verbs.Fib = codes "fib"
name_of verbs.Zone = codes "zone"
name_of verbs.Rir = codes "rir"
name_of verbs.Certify = codes "certify"
name_of verbs.Audit = codes "audit"
name_of verbs.Demo = codes "demo"
