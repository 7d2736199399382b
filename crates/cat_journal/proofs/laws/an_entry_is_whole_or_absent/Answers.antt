use Rattle.std.proofs.Common.{refl}
use Rattle.cat_journal.specs.Contents.{with_payload}
use Rattle.cat_journal.specs.Journal.{file_of}
use Rattle.cat_journal.proofs.Standing.{may_stand_with, stands_with, current_holds, knows_behind}
use Rattle.cat_journal.proofs.laws.an_entry_is_whole_or_absent.Goals as goal

pub returns-clause-torn : goal.returns-clause-torn
returns-clause-torn c = λ files image journal contents payload means knows same may.
    may_stand_with files image journal contents payload means knows may (current_holds files (file_of journal.current) contents means) same

pub returns-clause-whole : goal.returns-clause-whole
returns-clause-whole c = λ files image journal contents payload means knows same adds.
    let held = current_holds files (file_of journal.current) contents means in
    stands_with files image (file_of journal.current) contents (with_payload contents payload) means refl refl (adds contents knows held) same

pub returns-clause-journal : goal.returns-clause-journal
returns-clause-journal c = λ journal contents payload knows. knows_behind journal.current journal.last contents payload knows
