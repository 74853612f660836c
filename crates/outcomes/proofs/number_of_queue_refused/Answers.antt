use Rattle.outcomes.proofs.number_of_queue_refused.Goals as goal

pub returns-in-Outside : goal.returns-in-Outside
returns-in-Outside c =
    rw c.in-Outside.is c.number_of_refusal-in-Outside.ensures

pub returns-in-FewAnswers : goal.returns-in-FewAnswers
returns-in-FewAnswers c =
    rw c.in-FewAnswers.is c.number_of_refusal-in-FewAnswers.ensures
