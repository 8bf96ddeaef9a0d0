use Rattle.std.proofs.Common.{◌≡◌, ℕ, drop, map}
use Rattle.rela_json.specs.Results.{try_map}
use Rattle.rela_tokens.specs.Pieces.{text}
use Rattle.rela_locations.specs.Load.{load_tag}
use Rattle.rela_locations.proofs.Loops.{with_front}
use Rattle.rela_locations.proofs.plain_device.tags_at.Given as goal

-- the tags so far, and what comes of the texts that are left
abbrev pub invariant-loop-text : goal.invariant-loop-text
invariant-loop-text l = (row : ℕ) → with_front l.tags.items (try_map (load_tag row) (map text (drop l.text-index l.texts))) ≡ try_map (load_tag row) (map text l.texts)
