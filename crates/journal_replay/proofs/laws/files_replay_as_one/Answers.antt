use Rattle.journal_files.proofs.Once.{never_both, never_neither, one_catalogue, one_damage}
use Rattle.journal_replay.proofs.laws.files_replay_as_one.Goals as goal

pub returns : goal.returns
returns c = record {
  catalogue = one_catalogue;
  damage = one_damage;
  apart = never_both;
  every = never_neither;
}
