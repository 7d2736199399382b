-- What each status makes of a head.
use Rattle.std.proofs.Common.{◌≡◌, ◌<◌, ◌^◌, ℕ, List, [], ◌∷◌, ◌++◌, length, take, drop, codes, decimal, refl, sym, ap, ◌∙◌, arith}
use Rattle.std.specs.Fmt.{digits}
use Rattle.room_base.specs.Refusals.{refusal_number}
use Rattle.room_base.specs.declared.refusal.Refusal.{Refusal}
use Rattle.room_base.specs.declared.refusal.Refusal.TheVariants as refusals
use Rattle.room_command.specs.declared.reply.Reply.{Reply}
use Rattle.room_command.specs.declared.reply.Reply.TheVariants.{Done, Refused}
use Rattle.desk_reply.specs.Reading.{behind, body_of}
use Rattle.desk_reply.specs.Refused.{status_of_number}
use Rattle.desk_reply.specs.Replies.{reply_status, phrase, line, type_line, length_line, with_head}

-- what stands in a head from the digits of the length on
abbrev pub length_and_body : List ℕ → List ℕ
length_and_body body = (decimal (length body) ++ codes "\r\n") ++ (codes "\r\n" ++ body)

-- a head with these digits of its status
abbrev headed : ℕ → List ℕ → List ℕ → List ℕ
headed status body digits =
    line (codes "HTTP/1.1 " ++ (digits ++ (codes " " ++ phrase status)))
    ++ (type_line ++ (length_line (length body) ++ (codes "\r\n" ++ body)))

-- its front has no empty line, its first Content-Length is that of the body, and its status stands behind the version
pub record IsParted (status : ℕ) : Type 0 where
  pub passed : (body : List ℕ) → body_of (with_head status body) ≡ body_of (length_and_body body)
  pub found : (body : List ℕ) → behind (codes "Content-Length: ") (with_head status body) ≡ length_and_body body
  pub digits_found : (body : List ℕ) → take 3 (drop 9 (with_head status body)) ≡ decimal status
  pub small : status < 2 ^ 64

digits_200 : decimal 200 ≡ 50 ∷ 48 ∷ 48 ∷ []
unfolding digits
digits_200 = refl

parted_200 : IsParted 200
parted_200 = record {
  passed = λ body. ap (λ (digits : List ℕ). body_of (headed 200 body digits)) digits_200;
  found = λ body. ap (λ (digits : List ℕ). behind (codes "Content-Length: ") (headed 200 body digits)) digits_200;
  digits_found = λ body. ap (λ (digits : List ℕ). take 3 (drop 9 (headed 200 body digits))) digits_200 ∙ sym digits_200;
  small = omega arith;
}

digits_400 : decimal 400 ≡ 52 ∷ 48 ∷ 48 ∷ []
unfolding digits
digits_400 = refl

parted_400 : IsParted 400
parted_400 = record {
  passed = λ body. ap (λ (digits : List ℕ). body_of (headed 400 body digits)) digits_400;
  found = λ body. ap (λ (digits : List ℕ). behind (codes "Content-Length: ") (headed 400 body digits)) digits_400;
  digits_found = λ body. ap (λ (digits : List ℕ). take 3 (drop 9 (headed 400 body digits))) digits_400 ∙ sym digits_400;
  small = omega arith;
}

digits_404 : decimal 404 ≡ 52 ∷ 48 ∷ 52 ∷ []
unfolding digits
digits_404 = refl

parted_404 : IsParted 404
parted_404 = record {
  passed = λ body. ap (λ (digits : List ℕ). body_of (headed 404 body digits)) digits_404;
  found = λ body. ap (λ (digits : List ℕ). behind (codes "Content-Length: ") (headed 404 body digits)) digits_404;
  digits_found = λ body. ap (λ (digits : List ℕ). take 3 (drop 9 (headed 404 body digits))) digits_404 ∙ sym digits_404;
  small = omega arith;
}

digits_409 : decimal 409 ≡ 52 ∷ 48 ∷ 57 ∷ []
unfolding digits
digits_409 = refl

parted_409 : IsParted 409
parted_409 = record {
  passed = λ body. ap (λ (digits : List ℕ). body_of (headed 409 body digits)) digits_409;
  found = λ body. ap (λ (digits : List ℕ). behind (codes "Content-Length: ") (headed 409 body digits)) digits_409;
  digits_found = λ body. ap (λ (digits : List ℕ). take 3 (drop 9 (headed 409 body digits))) digits_409 ∙ sym digits_409;
  small = omega arith;
}

digits_410 : decimal 410 ≡ 52 ∷ 49 ∷ 48 ∷ []
unfolding digits
digits_410 = refl

parted_410 : IsParted 410
parted_410 = record {
  passed = λ body. ap (λ (digits : List ℕ). body_of (headed 410 body digits)) digits_410;
  found = λ body. ap (λ (digits : List ℕ). behind (codes "Content-Length: ") (headed 410 body digits)) digits_410;
  digits_found = λ body. ap (λ (digits : List ℕ). take 3 (drop 9 (headed 410 body digits))) digits_410 ∙ sym digits_410;
  small = omega arith;
}

digits_413 : decimal 413 ≡ 52 ∷ 49 ∷ 51 ∷ []
unfolding digits
digits_413 = refl

parted_413 : IsParted 413
parted_413 = record {
  passed = λ body. ap (λ (digits : List ℕ). body_of (headed 413 body digits)) digits_413;
  found = λ body. ap (λ (digits : List ℕ). behind (codes "Content-Length: ") (headed 413 body digits)) digits_413;
  digits_found = λ body. ap (λ (digits : List ℕ). take 3 (drop 9 (headed 413 body digits))) digits_413 ∙ sym digits_413;
  small = omega arith;
}

digits_500 : decimal 500 ≡ 53 ∷ 48 ∷ 48 ∷ []
unfolding digits
digits_500 = refl

parted_500 : IsParted 500
parted_500 = record {
  passed = λ body. ap (λ (digits : List ℕ). body_of (headed 500 body digits)) digits_500;
  found = λ body. ap (λ (digits : List ℕ). behind (codes "Content-Length: ") (headed 500 body digits)) digits_500;
  digits_found = λ body. ap (λ (digits : List ℕ). take 3 (drop 9 (headed 500 body digits))) digits_500 ∙ sym digits_500;
  small = omega arith;
}

digits_503 : decimal 503 ≡ 53 ∷ 48 ∷ 51 ∷ []
unfolding digits
digits_503 = refl

parted_503 : IsParted 503
parted_503 = record {
  passed = λ body. ap (λ (digits : List ℕ). body_of (headed 503 body digits)) digits_503;
  found = λ body. ap (λ (digits : List ℕ). behind (codes "Content-Length: ") (headed 503 body digits)) digits_503;
  digits_found = λ body. ap (λ (digits : List ℕ). take 3 (drop 9 (headed 503 body digits))) digits_503 ∙ sym digits_503;
  small = omega arith;
}

parted_refusal : (refusal : Refusal) → IsParted (status_of_number (refusal_number refusal))
parted_refusal (refusals.Malformed field) = parted_400
parted_refusal (refusals.NoSuch kind name) = parted_404
parted_refusal (refusals.Exists kind name) = parted_409
parted_refusal (refusals.InUse kind name) = parted_409
parted_refusal (refusals.Skipped day) = parted_409
parted_refusal (refusals.SetBusy ssid) = parted_409
parted_refusal (refusals.NeedVolume pool) = parted_409
parted_refusal (refusals.SessionsFull limit) = parted_409
parted_refusal (refusals.NotOpen ssid) = parted_404
parted_refusal (refusals.Gap expected) = parted_409
parted_refusal (refusals.PieceTooLong limit) = parted_413
parted_refusal (refusals.BadStream offset) = parted_409
parted_refusal (refusals.NotEnded offset) = parted_409
parted_refusal (refusals.WrongLength kept) = parted_409
parted_refusal (refusals.WrongDigest kept) = parted_409
parted_refusal (refusals.SlotEmpty slot) = parted_409
parted_refusal (refusals.DriveBusy drive volid) = parted_409
parted_refusal (refusals.Unlabelled cart) = parted_409
parted_refusal (refusals.Strange volid) = parted_409
parted_refusal (refusals.LabelPending volid found) = parted_409
parted_refusal (refusals.Mounted drive) = parted_409
parted_refusal (refusals.Needed ssid) = parted_409
parted_refusal (refusals.Offsite volid) = parted_409
parted_refusal (refusals.DamagedBlock volid block) = parted_500
parted_refusal (refusals.Purged ssid) = parted_410
parted_refusal (refusals.BaseGone ssid) = parted_410
parted_refusal (refusals.HasCopy volid) = parted_409
parted_refusal (refusals.NoFile path) = parted_404
parted_refusal (refusals.TooMany limit) = parted_409
parted_refusal (refusals.DeviceFault file closed) = parted_503
parted_refusal refusals.JournalFault = parted_503
parted_refusal refusals.NoMemory = parted_503

pub parted : (reply : Reply) → IsParted (reply_status reply)
parted (Done answer) = parted_200
parted (Refused refusal) = parted_refusal refusal
