use Rattle.ice_commands.proofs.best_set.BestSet.write_set.Goals as goal

pub write_record-requires-clause-lawful : goal.write_record-requires-clause-lawful
write_record-requires-clause-lawful c = c.args.self.now.has_bits

pub end-requires : goal.end-requires
end-requires c = c.write_record.ensures.short
