use Rattle.hub.proofs.Queues.{queue_told}
use Rattle.hub.proofs.amphorust_judge_queue.Goals as goal

pub returns : goal.returns
returns c =
    queue_told _ _ _ _ _ _ _ _ c.judge_queue-queued.result c.judge_queue-queued.ensures c.number_of_queued.ensures
