use Rattle.rela_expand.proofs.names.Definitions.add.Goals as goal

pub returns : goal.returns
returns c = λ other. c.in_ok-insert.ensures.updates.0 (record { ref_ptr = (0, 0); now = other })
