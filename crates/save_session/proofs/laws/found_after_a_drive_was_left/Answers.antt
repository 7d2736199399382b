use Rattle.save_session.proofs.Leaving.{found_left, none_left}
use Rattle.save_session.proofs.laws.found_after_a_drive_was_left.Goals as goal

pub returns-clause-found : goal.returns-clause-found
returns-clause-found c = λ sessions drive ssid. found_left drive ssid sessions

pub returns-clause-none : goal.returns-clause-none
returns-clause-none c = λ sessions drive. none_left drive sessions
