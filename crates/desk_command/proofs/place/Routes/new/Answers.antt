use Rattle.desk_command.proofs.Inserting.{all_placed}
use Rattle.desk_command.proofs.place.Routes.new.Goals as goal

pub invariant_of-result : goal.invariant_of-result
invariant_of-result c =
    rw (c.in_ok-put-15.ensures, c.in_ok-put-14.ensures, c.in_ok-put-13.ensures, c.in_ok-put-12.ensures, c.in_ok-put-11.ensures, c.in_ok-put-10.ensures, c.in_ok-put-9.ensures, c.in_ok-put-8.ensures, c.in_ok-put-7.ensures, c.in_ok-put-6.ensures, c.in_ok-put-5.ensures, c.in_ok-put-4.ensures, c.in_ok-put-3.ensures, c.in_ok-put-2.ensures, c.in_ok-put.ensures, c.new-router.ensures) all_placed
