-- Requests with what was answered to them.
use Rattle.std.specs.Prelude.{◌≡◌, ℕ, List, [], ◌∷◌, ◌++◌, Ok, Err}
use Rattle.room_base.specs.Outside.{IsFirstMoment, later_moments}
use Rattle.room_base.specs.declared.numbers.Moment.{Moment}
use Rattle.room_base.specs.declared.refusal.Refusal.{Refusal}
use Rattle.room_command.specs.declared.reply.Reply.{Reply}
use Rattle.room_command.specs.declared.reply.Reply.TheVariants as replies
use Rattle.room_turns.specs.Runs.{Passage}
use Rattle.desk_request.specs.Requests.{RequestText}
use Rattle.desk_command.specs.Commands.{AnswersRequest, CommandOf}
use Rattle.desk_reply.specs.Replies.{reply_bytes}

-- a request that asks for no command and is refused, or one whose command was called
pub data Exchange : Type 0 where
  Refused : RequestText → Refusal → Exchange
  Called : RequestText → Passage → Exchange

abbrev pub request_of : Exchange → RequestText
request_of (Refused request refusal) = request
request_of (Called request passage) = request

abbrev pub reply_of : Exchange → Reply
reply_of (Refused request refusal) = replies.Refused refusal
reply_of (Called request passage) = passage.call.reply

abbrev pub requests_of : List Exchange → List RequestText
requests_of [] = []
requests_of (one ∷ more) = request_of one ∷ requests_of more

-- the calls of the room
abbrev pub passages_of : List Exchange → List Passage
passages_of [] = []
passages_of (Refused request refusal ∷ more) = passages_of more
passages_of (Called request passage ∷ more) = passage ∷ passages_of more

-- the bytes of a reply
unfoldable pub answer_text : Exchange → List ℕ
answer_text one = reply_bytes (reply_of one)

-- the bytes of all replies, in order
abbrev pub text_of : List Exchange → List ℕ
text_of [] = []
text_of (one ∷ more) = answer_text one ++ text_of more

-- it was answered by what the request asks for: its command, or the refusal in its place
abbrev pub IsAsked : Exchange → Type 0
IsAsked (Refused request refusal) = AnswersRequest request (Err refusal)
IsAsked (Called request passage) = CommandOf request (Ok passage.call.command)

abbrev pub AreAsked : List Exchange → Type 0
AreAsked [] = Unit {0}
AreAsked (one ∷ more) = IsAsked one × AreAsked more

-- Each call was made at the clock's first moment then. The clock had these moments before, and has
-- those behind.
abbrev pub AreTimed : List Moment → List Passage → List Moment → Type 0
AreTimed before [] behind = behind ≡ before
AreTimed before (one ∷ more) behind = IsFirstMoment before (record { 0 = one.call.clock })
    × AreTimed (later_moments before) more behind
