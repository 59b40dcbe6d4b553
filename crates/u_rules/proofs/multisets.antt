pub mod LeavesMean
pub mod LeavesAt
pub mod LeavesCancel
pub mod LeavesPairs
pub mod CodesAt
pub mod CodesDiffer
pub mod OneOrder
