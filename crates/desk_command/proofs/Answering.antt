-- What a request comes to, by the route that was found.
use Rattle.std.proofs.Common.{◌≡◌, ◌⊎◌, inl, inr, List, ℕ, Ok, Err, ap, refl, sym, ◌∙◌}
use Rattle.room_base.specs.declared.refusal.Refusal.{Refusal}
use Rattle.room_base.specs.declared.refusal.Refusal.TheVariants.{NoMemory}
use Rattle.room_command.specs.declared.command.Command.{Command}
use Rattle.desk_request.specs.Requests.{RequestText}
use Rattle.desk_command.specs.Commands.{AnswersRequest, CommandOf, command_by, no_route}
use Rattle.desk_command.specs.Outcomes.{Answers, Outcome}
use Rattle.desk_command.specs.Routes.{HasRoute, Route, parts_of}
use Rattle.desk_command.proofs.Tables.{one_line}
use Rattle.desk_command.proofs.Targets.{made_of_route, one_making}

pub asked : (request : RequestText) (route : Route) (result : Outcome Command) → HasRoute request.method request.target route
    → Answers (command_by route request.body) result → AnswersRequest request result
asked request route result has (inl answers) = inl (inl (route, has, answers))
asked request route result has (inr memory) = inr memory

pub not_asked : (request : RequestText) (refusal : Refusal) → ((route : Route) → ¬ (HasRoute request.method request.target route))
    → (refusal ≡ no_route request.target) ⊎ (refusal ≡ NoMemory) → AnswersRequest request (Err refusal)
not_asked request refusal none (inl refused) = inl (inr (none, ap Err refused))
not_asked request refusal none (inr memory) = inr (ap Err memory)

pub one_route : (request : RequestText) (route other : Route) → HasRoute request.method request.target route
    → HasRoute request.method request.target other → route ≡ other
one_route request route other first second =
    let parts_are = one_making request.target (parts_of route) (parts_of other)
    (made_of_route request.method request.target route first) (made_of_route request.method request.target other second) in
    one_line request.method (parts_of route) route other (first.method_is, refl) (second.method_is, parts_are)

pub one_outcome : (request : RequestText) (one other : Outcome Command) → CommandOf request one → CommandOf request other → one ≡ other
one_outcome request one other (inl (route, has, is)) (inl (another, has_too, is_too)) =
    is ∙ ap (λ r. command_by r request.body) (one_route request route another has has_too) ∙ sym is_too
one_outcome request one other (inl (route, has, is)) (inr (none, is_too)) = absurd (none route has)
one_outcome request one other (inr (none, is)) (inl (route, has, is_too)) = absurd (none route has)
one_outcome request one other (inr (none, is)) (inr (none_too, is_too)) = is ∙ sym is_too
