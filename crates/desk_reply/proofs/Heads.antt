-- The lines of a head, as they are appended part by part.
use Rattle.std.proofs.Common.{◌≡◌, ℕ, List, ◌++◌, codes, decimal, append_assoc}
use Rattle.desk_reply.specs.Replies.{status_line, length_line, phrase}

pub status_appended : (old : List ℕ) (status : ℕ)
    → ((((old ++ codes "HTTP/1.1 ") ++ decimal status) ++ codes " ") ++ phrase status) ++ codes "\r\n"
    ≡ old ++ status_line status
status_appended old status = simp append_assoc

pub length_appended : (old : List ℕ) (count : ℕ)
    → ((old ++ codes "Content-Length: ") ++ decimal count) ++ codes "\r\n" ≡ old ++ length_line count
length_appended old count = simp append_assoc
