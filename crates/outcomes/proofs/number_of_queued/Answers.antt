use Rattle.outcomes.proofs.number_of_queued.Goals as goal

pub returns-in-Ok : goal.returns-in-Ok
returns-in-Ok c =
    rw c.in-Ok.is c.number_of_count.ensures

pub returns-in-Err : goal.returns-in-Err
returns-in-Err c =
    rw c.in-Err.is c.number_of_queue_refused.ensures
