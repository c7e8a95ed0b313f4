use Rattle.std.proofs.Common.{[]}
use Rattle.tree.proofs.ledger_laws_stand.Goals as goal
use Rattle.tree.proofs.Sounds.{starts_sound, turn_sound, always_sound, full_exactly, granted, granted_passed, full_passed, refusals_keep, one_best, one_more, as_many, one_less}

pub returns : goal.returns
returns c = record {
  starts_sound = starts_sound;
  stays_sound = λ g rs call sound. turn_sound g rs sound call;
  always_sound = λ g calls. always_sound g [] calls (starts_sound g);
  full_exactly = λ g rs call sound. full_exactly g rs sound call;
  granted = λ g rs call sound. granted g rs sound call;
  granted_passed = granted_passed;
  full_passed = full_passed;
  refusals_keep = refusals_keep;
  one_best = one_best;
  one_more = one_more;
  as_many = as_many;
  one_less = one_less;
}
