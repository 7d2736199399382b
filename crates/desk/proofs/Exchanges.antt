-- Exchanges, and one more behind them.
use Rattle.std.proofs.Common.{◌≡◌, ℕ, List, [], ◌∷◌, ◌++◌, refl, sym, ap, ◌∙◌, subst, append_assoc, append-nil}
use Rattle.room_base.specs.Outside.{IsFirstMoment, later_moments}
use Rattle.room_base.specs.declared.numbers.Moment.{Moment}
use Rattle.room_base.specs.declared.refusal.Refusal.{Refusal}
use Rattle.room_turns.specs.Runs.{Passage}
use Rattle.desk_request.specs.Requests.{RequestText}
use Rattle.desk_reply.specs.Replies.{reply_bytes}
use Rattle.desk.specs.Exchanges.{AreAsked, AreTimed, Called, Exchange, IsAsked, Refused, answer_text, passages_of, reply_of, request_of, requests_of, text_of}

-- the text of a reply
pub answer_is : (one : Exchange) → answer_text one ≡ reply_bytes (reply_of one)
unfolding answer_text
answer_is one = refl

pub requests_one_more : (exchanges : List Exchange) (one : Exchange) → requests_of (exchanges ++ one ∷ []) ≡ requests_of exchanges ++ request_of one ∷ []
requests_one_more [] one = refl
requests_one_more (first ∷ more) one = ap (λ (rest : List RequestText). request_of first ∷ rest) (requests_one_more more one)

pub text_one_more : (exchanges : List Exchange) (one : Exchange) → text_of (exchanges ++ one ∷ []) ≡ text_of exchanges ++ answer_text one
text_one_more [] one = append-nil (answer_text one)
text_one_more (first ∷ more) one =
    ap (λ (rest : List ℕ). answer_text first ++ rest) (text_one_more more one) ∙ sym (append_assoc (answer_text first) (text_of more) (answer_text one))

pub passages_refused : (exchanges : List Exchange) (request : RequestText) (refusal : Refusal)
    → passages_of (exchanges ++ Refused request refusal ∷ []) ≡ passages_of exchanges
passages_refused [] request refusal = refl
passages_refused (Refused other fault ∷ more) request refusal = passages_refused more request refusal
passages_refused (Called other passage ∷ more) request refusal =
    ap (λ (rest : List Passage). passage ∷ rest) (passages_refused more request refusal)

pub passages_called : (exchanges : List Exchange) (request : RequestText) (one : Passage)
    → passages_of (exchanges ++ Called request one ∷ []) ≡ passages_of exchanges ++ one ∷ []
passages_called [] request one = refl
passages_called (Refused other fault ∷ more) request one = passages_called more request one
passages_called (Called other passage ∷ more) request one = ap (λ (rest : List Passage). passage ∷ rest) (passages_called more request one)

pub asked_one_more : (exchanges : List Exchange) (one : Exchange) → AreAsked exchanges → IsAsked one → AreAsked (exchanges ++ one ∷ [])
asked_one_more [] one are is = (is, tt)
asked_one_more (first ∷ more) one are is = (are.0, asked_one_more more one are.1 is)

-- with another last exchange
pub asked_other : (exchanges : List Exchange) (one other : Exchange) → (IsAsked one → IsAsked other) → AreAsked (exchanges ++ one ∷ [])
    → AreAsked (exchanges ++ other ∷ [])
asked_other [] one other so are = (so are.0, tt)
asked_other (first ∷ more) one other so are = (are.0, asked_other more one other so are.1)

-- ---- moments

pub timed_one_more : (before mid behind : List Moment) (passages : List Passage) (one : Passage) → AreTimed before passages mid
    → IsFirstMoment mid (record { 0 = one.call.clock }) → behind ≡ later_moments mid → AreTimed before (passages ++ one ∷ []) behind
timed_one_more before mid behind [] one are first later =
    let F : List Moment → Type 0 = λ moments. IsFirstMoment moments (record { 0 = one.call.clock }) in
    (subst F are first, later ∙ ap later_moments are)
timed_one_more before mid behind (other ∷ more) one are first later =
    (are.0, timed_one_more (later_moments before) mid behind more one are.1 first later)

-- a passage with the same call
pub timed_other : (before behind : List Moment) (passages : List Passage) (one other : Passage) → other.call ≡ one.call
    → AreTimed before (passages ++ one ∷ []) behind → AreTimed before (passages ++ other ∷ []) behind
timed_other before behind [] one other same are =
    let F : ℕ → Type 0 = λ clock. IsFirstMoment before (record { 0 = clock }) in
    (subst F (sym (ap (λ call. call.clock) same)) are.0, are.1)
timed_other before behind (first ∷ more) one other same are = (are.0, timed_other (later_moments before) behind more one other same are.1)
