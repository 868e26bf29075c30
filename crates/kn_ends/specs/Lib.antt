pub mod Numbers
pub mod Inlets
pub mod Queues
pub mod Carriers
pub mod Missing
